-- What comes, goes, and is locked, and what that leaves.
use Rattle.std.specs.Prelude.{◌≡◌, ℕ, ◌+◌, ◌-◌, ◌<◌, ◌≤◌, ◌^◌, true, false, List, [], ◌∷◌, map, Contains, length, Option, Some}
use Rattle.std.specs.Option.{option_map}
use Rattle.cache_ident.specs.declared.idents.Cause.{Cause}
use Rattle.cache_ident.specs.declared.idents.Cause.TheVariants.{Dependent}
use Rattle.cache_ident.specs.declared.idents.Ident.{Ident}
use Rattle.cache_ident.specs.declared.idents.Kind.{Kind}
use Rattle.cache_ident.specs.declared.idents.Kind.TheVariants as kind
use Rattle.cache_ident.specs.declared.names.Caps.{Caps}
use Rattle.cache_ident.specs.declared.names.Name.{Name}
use Rattle.cache_ident.specs.declared.rolls.Issued.{Issued}
use Rattle.cache_ident.specs.Names.{amount_of, kind_of}
use Rattle.cache_ident.specs.Residents.{IsResident, Resident}
use Rattle.cache_ident.specs.Rolls.{departed}
use Rattle.desc_parents.specs.flat_state.specs.declared.events.Machine.{Machine}
use Rattle.desc_parents.specs.flat_state.specs.Names.{is_fit_name}
use Rattle.desc_parents.specs.run_journal.specs.Groups.{HasParents, IsGroup}
use Rattle.desc_parents.specs.kernel_cache.specs.declared.KernelRec.{KernelRec}
use Rattle.desc_parents.specs.desc_stores.specs.declared.items.Item.{Item}
use Rattle.desc_parents.specs.desc_stores.specs.declared.items.Item.TheVariants as item
use Rattle.cache_ident.specs.declared.names.KernelNo.{KernelNo}
use Rattle.desc_parents.specs.flat_state.specs.Dependence.{owner}
use Rattle.desc_parents.specs.run_journal.specs.Legal.{limit_of, locked_by}
use Rattle.desc_parents.specs.desc_stores.specs.Changes.{room_of, HasContent}
use Rattle.desc_parents.specs.desc_stores.specs.Contents.{content_of, resident_as, residents_of, IsFullOf, IsShelved, Contents}
use Rattle.desc_parents.specs.desc_stores.specs.Sound.{AreOwned}
use Rattle.desc_parents.specs.shown_state.specs.Shown.{shown}
use Rattle.desc_groups.specs.declared.departures.Gone.{Gone}
use Rattle.desc_parents.specs.Seen.{seen}

-- a content, with no count of locks
abbrev pub but_for_counts : Item → Item
but_for_counts (item.Kernel kernel) = item.Kernel (record kernel { locked = record { kernels = 0; spaces = 0; threads = 0; mappings = 0 } })
but_for_counts (item.Space space) = item.Space space
but_for_counts (item.Thread thread) = item.Thread thread
but_for_counts (item.Mapping row) = item.Mapping row

-- Each name has the content that it had, but for the counts of locks. So the machine that is shown is the same, whatever its
-- memory. No room and no identifier that may be issued is lost.
pub record KeepsButCounts (old new : Contents) : Type 0 where
  pub contents : (name : Name) → option_map but_for_counts (content_of new name) ≡ option_map but_for_counts (content_of old name)
  pub shows : (machine : Option Machine) (memory : List ℕ) → shown machine memory new ≡ shown machine memory old
  pub room : room_of new ≡ room_of old
  pub spare : new.spare ≡ old.spare

-- the amounts, with another one for a kind
abbrev pub with_amount : Caps → Kind → ℕ → Caps
with_amount caps kind.Kernel n = record caps { kernels = n }
with_amount caps kind.Space n = record caps { spaces = n }
with_amount caps kind.Thread n = record caps { threads = n }
with_amount caps kind.Mapping n = record caps { mappings = n }

-- a kernel with one more, or one less, of a kind that is locked
abbrev pub counted_up : Kind → KernelRec → KernelRec
counted_up kind kernel = record kernel { locked = with_amount kernel.locked kind (amount_of kernel.locked kind + 1) }

abbrev pub counted_down : Kind → KernelRec → KernelRec
counted_down kind kernel = record kernel { locked = with_amount kernel.locked kind (amount_of kernel.locked kind - 1) }

-- these have left, the first one at that place of the journal and each further one at the next
abbrev pub departed_all : List Issued → List Ident → ℕ → List Issued
departed_all issued [] at = issued
departed_all issued (ident ∷ idents) at = departed_all (departed issued ident at) idents (at + 1)

-- what left: the last one for that cause, and the others as its dependents
abbrev pub gone_as : Cause → List Ident → List Gone
gone_as cause [] = []
gone_as cause (ident ∷ []) = record { ident = ident; cause = cause } ∷ []
gone_as cause (ident ∷ other ∷ idents) = record { ident = ident; cause = Dependent } ∷ gone_as cause (other ∷ idents)

-- a name can come at once: it stands on the shelf, a slot of its kind is free, it is fit, and what it depends on is loaded
pub record MayEnter (c : Contents) (name : Name) : Type 0 where
  pub shelved : IsShelved c name
  pub place : IsFullOf c (kind_of name) → ⊥
  pub fit : is_fit_name (seen c) name ≡ true
  pub has : HasParents (seen c) (residents_of c) name

-- what is loaded with the identifier is locked already, or its owner has fewer locked of the kind than it may have
abbrev pub MayBeLocked : Contents → Ident → Type 0
MayBeLocked c ident = (r : Resident) (kernel : KernelNo) → resident_as c ident ≡ Some r → r.locked ≡ false → owner (seen c) r.name ≡ Some kernel → locked_by (seen c) (residents_of c) kernel ident.kind < limit_of (seen c) kernel ident.kind

-- the record stands in the place of the kernel's, wherever that is, and nothing else changed
pub record IsPutKernel (old new : Contents) (kernel : KernelRec) : Type 0 where
  pub contents : HasContent old new (item.Kernel kernel)
  pub residents : residents_of new ≡ residents_of old
  pub owned : (owner_of : Name → Option KernelNo) → AreOwned owner_of old → AreOwned owner_of new
  pub slots : length new.kernels.cells ≡ length old.kernels.cells
  pub room : room_of new ≡ room_of old
  pub only : new ≡ record old { kernels = new.kernels }

-- the identifiers of what left
abbrev pub idents_of : List Gone → List Ident
idents_of gone = map (λ g. g.ident) gone

-- the names with which the identifiers were resident, one for each, in their order
abbrev pub AreNamed : List Resident → List Ident → List Name → Type 0
AreNamed rs [] [] = Unit {0}
AreNamed rs (ident ∷ idents) (name ∷ names) = IsResident rs ident name × AreNamed rs idents names
AreNamed rs _ _ = ⊥

-- the group that leaves with the root, the first at a place of the journal and each further one at the next, gets places that
-- a number of 64 bits can name
abbrev pub HasPlaces : Contents → Ident → ℕ → Type 0
HasPlaces c root at = (r : Resident) (idents : List Ident) → Contains (residents_of c) r → r.ident ≡ root → IsGroup (seen c) (residents_of c) r idents → at + length idents ≤ 2 ^ 64
