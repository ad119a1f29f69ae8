-- What a call leaves.
use Rattle.std.specs.Prelude.{◌≡◌, ℕ, ◌+◌, ◌<◌, ◌≤◌, ◌^◌, Bool, if◌then◌else◌, [], ◌∷◌, ◌++◌, replicate, min, Some, None}
use Rattle.cache_ident.specs.declared.idents.Ident.{Ident}
use Rattle.cache_ident.specs.declared.idents.Kind.{Kind}
use Rattle.cache_ident.specs.declared.idents.Kind.TheVariants as kind
use Rattle.cache_ident.specs.declared.names.Caps.{Caps}
use Rattle.cache_ident.specs.declared.names.KernelNo.{KernelNo}
use Rattle.cache_ident.specs.declared.names.Name.{Name}
use Rattle.cache_ident.specs.declared.names.Name.TheVariants as name
use Rattle.sorted_list.specs.Sorted.{IsAdded}
use Rattle.slot_cache.specs.Cells.{changed, with_lock, with_value}
use Rattle.slot_cache.specs.Rows.{row_name}
use Rattle.kernel_cache.specs.Kernels as kernel_rec
use Rattle.space_cache.specs.Spaces as space_rec
use Rattle.thread_cache.specs.Threads as thread_rec
use Rattle.kind_store.specs.Kept.{Kept}
use Rattle.kind_store.specs.Changes.{is_name, with_content, IsLeaving, IsLoading}
use Rattle.desc_stores.specs.declared.items.Item.{Item}
use Rattle.desc_stores.specs.declared.items.Item.TheVariants as item
use Rattle.desc_stores.specs.Contents.{content_of, Contents}
use Rattle.desc_stores.specs.Items.{name_of}

-- each name has the content that it had
abbrev pub KeepsContents : Contents → Contents → Type 0
KeepsContents old new = (name : Name) → content_of new name ≡ content_of old name

-- the name of the item has it as content, and each other name the content that it had
abbrev pub HasContent : Contents → Contents → Item → Type 0
HasContent old new item = (other : Name) → content_of new other ≡ (if is_name (name_of item) other then Some item else content_of old other)

-- that name has no content, and each other name the one that it had
abbrev pub HasNoContent : Contents → Contents → Name → Type 0
HasNoContent old new name = (other : Name) → content_of new other ≡ (if is_name name other then None else content_of old other)

-- how many descriptors of each kind there can be without memory, whatever the kind
abbrev pub room_of : Contents → ℕ
room_of c = min (min c.kernels.room c.spaces.room) (min c.threads.room c.rows.room)

-- nothing but free slots, as many as the capacities
abbrev pub no_kept : {T : Type 0} → ℕ → Kept T
no_kept cap = record { cells = replicate cap None; rows = []; room = 0 }

pub record IsNothing (caps : Caps) (c : Contents) : Type 0 where
  pub kernels : c.kernels ≡ no_kept caps.kernels
  pub spaces : c.spaces ≡ no_kept caps.spaces
  pub threads : c.threads ≡ no_kept caps.threads
  pub rows : c.rows ≡ record { kept = no_kept caps.mappings; names = []; room = 0 }
  pub kernel_count : c.kernel_count ≡ 0
  pub space_count : c.space_count ≡ 0
  pub thread_count : c.thread_count ≡ 0
  pub issued : c.issued ≡ []

-- nothing but the room changed, and that of no kind fell
pub record OnlyMakesRoom (old new : Contents) : Type 0 where
  pub is : new ≡ record old {
    kernels = record old.kernels { room = new.kernels.room };
    spaces = record old.spaces { room = new.spaces.room };
    threads = record old.threads { room = new.threads.room };
    rows = record old.rows { kept = record old.rows.kept { room = new.rows.kept.room }; room = new.rows.room };
  }
  pub kernels : old.kernels.room ≤ new.kernels.room
  pub spaces : old.spaces.room ≤ new.spaces.room
  pub threads : old.threads.room ≤ new.threads.room
  pub rows : old.rows.room ≤ new.rows.room

-- a kind that had room is as it was
pub record LeavesWhatHasRoom (old new : Contents) : Type 0 where
  pub kernels : 0 < old.kernels.room → new.kernels ≡ old.kernels
  pub spaces : 0 < old.spaces.room → new.spaces ≡ old.spaces
  pub threads : 0 < old.threads.room → new.threads ≡ old.threads
  pub rows : 0 < old.rows.room → new.rows ≡ old.rows

-- a kernel, a space or a thread has the next number, and it isn't the last that there is
abbrev pub IsNext : Contents → Item → Type 0
IsNext c (item.Kernel kernel) = (kernel.no.0 ≡ c.kernel_count) × (c.kernel_count + 1 < 2 ^ 32)
IsNext c (item.Space space) = (space.no.0 ≡ c.space_count) × (c.space_count + 1 < 2 ^ 32)
IsNext c (item.Thread thread) = (thread.no.0 ≡ c.thread_count) × (c.thread_count + 1 < 2 ^ 32)
IsNext c (item.Mapping row) = Unit {0}

-- one content came to the shelf of its kind, under the owner
pub record IsPut {T : Type 0} (old new : Kept T) (owner : KernelNo) (value : T) : Type 0 where
  pub cells : new.cells ≡ old.cells
  pub rows : IsAdded old.rows new.rows (record { owner = owner; content = value })

abbrev pub IsDeclaring : Contents → Contents → KernelNo → Item → Type 0
IsDeclaring old new owner (item.Kernel kernel) = IsPut old.kernels new.kernels owner kernel × (new.kernels.room + 1 ≡ old.kernels.room) × (new ≡ record old { kernels = new.kernels; kernel_count = old.kernel_count + 1 })
IsDeclaring old new owner (item.Space space) = IsPut old.spaces new.spaces owner space × (new.spaces.room + 1 ≡ old.spaces.room) × (new ≡ record old { spaces = new.spaces; space_count = old.space_count + 1 })
IsDeclaring old new owner (item.Thread thread) = IsPut old.threads new.threads owner thread × (new.threads.room + 1 ≡ old.threads.room) × (new ≡ record old { threads = new.threads; thread_count = old.thread_count + 1 })
IsDeclaring old new owner (item.Mapping row) = IsPut old.rows.kept new.rows.kept owner row × (new.rows.room + 1 ≡ old.rows.room) × (new.rows.names ≡ old.rows.names ++ row_name row ∷ []) × (new ≡ record old { rows = new.rows })

-- the content of a name went from the shelf to the slot of the identifier, and nothing else moved
abbrev pub IsLoadingOf : Contents → Contents → Name → Ident → Type 0
IsLoadingOf old new (name.Kernel number) ident = IsLoading kernel_rec.name_of old.kernels new.kernels (name.Kernel number) ident × (new ≡ record old { kernels = new.kernels; issued = new.issued; spare = new.spare })
IsLoadingOf old new (name.Space number) ident = IsLoading space_rec.name_of old.spaces new.spaces (name.Space number) ident × (new ≡ record old { spaces = new.spaces; issued = new.issued; spare = new.spare })
IsLoadingOf old new (name.Thread number) ident = IsLoading thread_rec.name_of old.threads new.threads (name.Thread number) ident × (new ≡ record old { threads = new.threads; issued = new.issued; spare = new.spare })
IsLoadingOf old new (name.Mapping space vpn) ident = IsLoading row_name old.rows.kept new.rows.kept (name.Mapping space vpn) ident × (new ≡ record old { rows = record old.rows { kept = new.rows.kept }; issued = new.issued; spare = new.spare })

-- what was loaded with the identifier went to the shelf, under the owner, and nothing else moved
abbrev pub IsLeavingIn : Kind → Contents → Contents → Ident → KernelNo → Type 0
IsLeavingIn kind.Kernel old new ident owner = IsLeaving old.kernels new.kernels ident owner × (new ≡ record old { kernels = new.kernels; issued = new.issued })
IsLeavingIn kind.Space old new ident owner = IsLeaving old.spaces new.spaces ident owner × (new ≡ record old { spaces = new.spaces; issued = new.issued })
IsLeavingIn kind.Thread old new ident owner = IsLeaving old.threads new.threads ident owner × (new ≡ record old { threads = new.threads; issued = new.issued })
IsLeavingIn kind.Mapping old new ident owner = IsLeaving old.rows.kept new.rows.kept ident owner × (new ≡ record old { rows = record old.rows { kept = new.rows.kept }; issued = new.issued })

abbrev pub IsLeavingOf : Contents → Contents → Ident → KernelNo → Type 0
IsLeavingOf old new ident owner = IsLeavingIn ident.kind old new ident owner

-- the contents once what is loaded with the identifier is locked or unlocked
abbrev pub relocked_in : Kind → Contents → Ident → Bool → Contents
relocked_in kind.Kernel c ident on = record c { kernels = record c.kernels { cells = changed c.kernels.cells ident.slot (with_lock on) } }
relocked_in kind.Space c ident on = record c { spaces = record c.spaces { cells = changed c.spaces.cells ident.slot (with_lock on) } }
relocked_in kind.Thread c ident on = record c { threads = record c.threads { cells = changed c.threads.cells ident.slot (with_lock on) } }
relocked_in kind.Mapping c ident on = record c { rows = record c.rows { kept = record c.rows.kept { cells = changed c.rows.kept.cells ident.slot (with_lock on) } } }

abbrev pub relocked : Contents → Ident → Bool → Contents
relocked c ident on = relocked_in ident.kind c ident on

-- the contents once the item stands in the place of what is loaded with the identifier
abbrev pub with_item : Contents → Ident → Item → Contents
with_item c ident (item.Kernel kernel) = record c { kernels = record c.kernels { cells = changed c.kernels.cells ident.slot (with_value kernel) } }
with_item c ident (item.Space space) = record c { spaces = record c.spaces { cells = changed c.spaces.cells ident.slot (with_value space) } }
with_item c ident (item.Thread thread) = record c { threads = record c.threads { cells = changed c.threads.cells ident.slot (with_value thread) } }
with_item c ident (item.Mapping row) = record c { rows = record c.rows { kept = record c.rows.kept { cells = changed c.rows.kept.cells ident.slot (with_value row) } } }

-- the contents once the item stands in the place of the content of its name, in its slot or on the shelf
abbrev pub with_named : Contents → Item → Contents
with_named c (item.Kernel kernel) = record c { kernels = with_content kernel_rec.name_of c.kernels (kernel_rec.name_of kernel) kernel }
with_named c (item.Space space) = record c { spaces = with_content space_rec.name_of c.spaces (space_rec.name_of space) space }
with_named c (item.Thread thread) = record c { threads = with_content thread_rec.name_of c.threads (thread_rec.name_of thread) thread }
with_named c (item.Mapping row) = record c { rows = record c.rows { kept = with_content row_name c.rows.kept (row_name row) row } }

-- a call with the content of the name, which is one of a kind, gave that result, and what it left of the content stands
-- in its place
pub record IsUpdatingNamed {T R : Type 0} (of_kind : T → Item) (call : T → R → T → Type 0) (old new : Contents) (name : Name) (result : R) : Type 0 where
  pub value : T
  pub was : content_of old name ≡ Some (of_kind value)
  pub left : T
  pub called_with : call value result left
  pub contents : HasContent old new (of_kind left)
  pub is : new ≡ with_named old (of_kind left)
