-- When a call may be made, and what it leaves.
use Rattle.std.specs.Prelude.{◌≡◌, ℕ, Bool, List, slice_set, Option, Some, IsSome}
use Rattle.cache_ident.specs.declared.idents.Ident.{Ident}
use Rattle.cache_ident.specs.declared.names.KernelNo.{KernelNo}
use Rattle.cache_ident.specs.declared.names.Name.{Name}
use Rattle.cache_ident.specs.declared.names.Name.TheVariants as name
use Rattle.cache_ident.specs.Names.{kind_of}
use Rattle.cache_ident.specs.Residents.{Resident}
use Rattle.phys_groups.specs.Rows.{row_name}
use Rattle.desc_groups.specs.flat_state.specs.declared.events.Decl.TheVariants as decls
use Rattle.desc_groups.specs.flat_state.specs.declared.events.Machine.{Machine}
use Rattle.desc_groups.specs.flat_state.specs.Declaration.{declared}
use Rattle.desc_groups.specs.flat_state.specs.Dependence.{owner}
use Rattle.desc_groups.specs.flat_state.specs.State.{FlatState}
use Rattle.kernel_cache.specs.declared.KernelRec.{KernelRec}
use Rattle.desc_groups.specs.desc_stores.specs.declared.items.Item.{Item}
use Rattle.desc_groups.specs.desc_stores.specs.declared.items.Item.TheVariants as item
use Rattle.desc_groups.specs.desc_stores.specs.Changes.{with_named, HasContent}
use Rattle.desc_groups.specs.desc_stores.specs.Contents.{content_of, residents_of, IsFullOf, Contents}
use Rattle.desc_groups.specs.desc_stores.specs.Items.{name_of}
use Rattle.desc_groups.specs.shown_state.specs.Shown.{shown}
use Rattle.desc_groups.specs.shown_state.specs.Edits.{with_changed}
use Rattle.desc_groups.specs.store_residents.specs.Victims.{IsOldest}
use Rattle.desc_groups.specs.desc_parents.specs.Seen.{seen}
use Rattle.desc_groups.specs.Moves.{HasPlaces}

-- ---- what is loaded

-- there are places in the journal for the group that leaves where the cache is full
abbrev pub HasPlacesFor : Contents → Name → List Ident → ℕ → Type 0
HasPlacesFor c loading keep at = IsFullOf c (kind_of loading) → (r : Resident) → IsOldest (residents_of c) (kind_of loading) keep r → HasPlaces c r.ident at

-- ---- what is changed

-- the one may stand in the place of the other: it differs in nothing of which dependence, rights or locks are read
abbrev pub IsLike : Item → Item → Type 0
IsLike (item.Kernel was) (item.Kernel kernel) = was ≡ kernel
IsLike (item.Space was) (item.Space space) = was ≡ space
IsLike (item.Thread was) (item.Thread thread) = (was.no ≡ thread.no) × (was.space ≡ thread.space)
IsLike (item.Mapping was) (item.Mapping row) = (row_name was ≡ row_name row) × (was.frame ≡ row.frame) × (was.flags ≡ row.flags) × (was.receiver ≡ row.receiver)
IsLike _ _ = ⊥

-- a call with the content of a name, which is one of a kind, gave that result, and what it left of the content stands in its
-- place, under that name, and is shown in it
pub record IsUpdated {T R : Type 0} (of_kind : T → Item) (call : T → R → T → Type 0) (old new : Contents) (named : Name) (result : R) : Type 0 where
  pub value : T
  pub was : content_of old named ≡ Some (of_kind value)
  pub left : T
  pub called_with : call value result left
  pub has_name : name_of (of_kind left) ≡ named
  pub contents : HasContent old new (of_kind left)
  pub shows : (machine : Option Machine) (memory : List ℕ) → shown machine memory new ≡ with_changed (shown machine memory old) (of_kind left)
  pub is : new ≡ with_named old (of_kind left)

-- a kernel with those rights on a group
abbrev pub with_right : ℕ → Bool × Bool → KernelRec → KernelRec
with_right group bits kernel = record kernel { rights = slice_set kernel.rights group bits }

-- the kernel, or the space, of which a new descriptor is stands
abbrev pub IsOfWhatStands : Contents → Item → Type 0
IsOfWhatStands c (item.Kernel kernel) = Unit {0}
IsOfWhatStands c (item.Space space) = Unit {0}
IsOfWhatStands c (item.Thread thread) = IsSome (content_of c (name.Space thread.space))
IsOfWhatStands c (item.Mapping row) = IsSome (content_of c (name.Space row.space))

-- the kernel owns the new descriptor
abbrev pub OwnsNew : Contents → Item → KernelNo → Type 0
OwnsNew c (item.Kernel kernel) who = who ≡ record { 0 = 0 }
OwnsNew c (item.Space space) who = who ≡ space.kernel
OwnsNew c (item.Thread thread) who = owner (seen c) (name.Space thread.space) ≡ Some who
OwnsNew c (item.Mapping row) who = owner (seen c) (name.Space row.space) ≡ Some who

-- the state, with other rights of a kernel on a group
abbrev pub with_rights : FlatState → KernelNo → ℕ → Bool × Bool → FlatState
with_rights s kernel group bits = declared s (decls.Right kernel group bits.0 bits.1)
