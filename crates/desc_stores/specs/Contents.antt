-- Where the descriptors of all kinds stand.
use Rattle.std.specs.Prelude.{◌≡◌, ◌≢◌, ℕ, Bool, List, map, filter_map, Option, Some, IsSome}
use Rattle.std.specs.List.{range_with_len}
use Rattle.std.specs.Option.{option_map}
use Rattle.cache_ident.specs.declared.idents.Ident.{Ident}
use Rattle.cache_ident.specs.declared.idents.Kind.{Kind}
use Rattle.cache_ident.specs.declared.idents.Kind.TheVariants as kind
use Rattle.cache_ident.specs.declared.names.KernelNo.{KernelNo}
use Rattle.cache_ident.specs.declared.names.Name.{Name}
use Rattle.cache_ident.specs.declared.names.Name.TheVariants as name
use Rattle.cache_ident.specs.declared.rolls.Issued.{Issued}
use Rattle.cache_ident.specs.Residents.{Resident}
use Rattle.slot_cache.specs.declared.loaded.Loaded.{Loaded}
use Rattle.slot_cache.specs.Cells.{IsFull, IsLowestFree, IsVictim, NoneMayGo}
use Rattle.slot_cache.specs.Rows.{row_name}
use Rattle.kind_store.specs.owner_shelf.specs.Rows.{content_under, row_under}
use Rattle.kernel_cache.specs.declared.KernelRec.{KernelRec}
use Rattle.kernel_cache.specs.Kernels as kernel_rec
use Rattle.space_cache.specs.declared.SpaceRec.{SpaceRec}
use Rattle.space_cache.specs.Spaces as space_rec
use Rattle.thread_cache.specs.declared.ThreadRec.{ThreadRec}
use Rattle.thread_cache.specs.Threads as thread_rec
use Rattle.kind_store.specs.Kept as stored
use Rattle.kind_store.specs.Rolls.{loaded_as}
use Rattle.row_store.specs.Kept.{KeptRows}
use Rattle.desc_stores.specs.declared.items.Item.{Item}
use Rattle.desc_stores.specs.declared.items.Item.TheVariants as item

-- The descriptors of each kind, all identifiers that were issued, and how many more can be issued without memory.
-- Kernels, spaces and threads are numbered from 0, so a count of each says which stand.
pub record Contents : Type 0 where
  pub kernels : stored.Kept KernelRec
  pub spaces : stored.Kept SpaceRec
  pub threads : stored.Kept ThreadRec
  pub rows : KeptRows
  pub kernel_count : ℕ
  pub space_count : ℕ
  pub thread_count : ℕ
  pub issued : List Issued
  pub spare : ℕ

-- the content of a name, wherever it is
abbrev pub content_of : Contents → Name → Option Item
content_of c (name.Kernel number) = option_map item.Kernel (stored.content_of kernel_rec.name_of c.kernels (name.Kernel number))
content_of c (name.Space number) = option_map item.Space (stored.content_of space_rec.name_of c.spaces (name.Space number))
content_of c (name.Thread number) = option_map item.Thread (stored.content_of thread_rec.name_of c.threads (name.Thread number))
content_of c (name.Mapping space vpn) = option_map item.Mapping (stored.content_of row_name c.rows.kept (name.Mapping space vpn))

-- the owner under which a name stands on the shelf, if it does
abbrev pub shelf_owner : Contents → Name → Option KernelNo
shelf_owner c (name.Kernel number) = option_map (λ row. row.owner) (row_under kernel_rec.name_of c.kernels.rows (name.Kernel number))
shelf_owner c (name.Space number) = option_map (λ row. row.owner) (row_under space_rec.name_of c.spaces.rows (name.Space number))
shelf_owner c (name.Thread number) = option_map (λ row. row.owner) (row_under thread_rec.name_of c.threads.rows (name.Thread number))
shelf_owner c (name.Mapping space vpn) = option_map (λ row. row.owner) (row_under row_name c.rows.kept.rows (name.Mapping space vpn))

-- the name stands on the shelf
abbrev pub IsShelved : Contents → Name → Type 0
IsShelved c (name.Kernel number) = IsSome (content_under kernel_rec.name_of c.kernels.rows (name.Kernel number))
IsShelved c (name.Space number) = IsSome (content_under space_rec.name_of c.spaces.rows (name.Space number))
IsShelved c (name.Thread number) = IsSome (content_under thread_rec.name_of c.threads.rows (name.Thread number))
IsShelved c (name.Mapping space vpn) = IsSome (content_under row_name c.rows.kept.rows (name.Mapping space vpn))

-- a loaded descriptor, but for its content
abbrev pub resident_of : {T : Type 0} → (T → Name) → Loaded T → Resident
resident_of called loaded = record { ident = loaded.ident; name = called loaded.value; locked = loaded.locked }

-- what is loaded with an identifier, of a kind
abbrev pub resident_in : Contents → Kind → Ident → Option Resident
resident_in c kind.Kernel ident = option_map (resident_of kernel_rec.name_of) (loaded_as c.kernels.cells ident)
resident_in c kind.Space ident = option_map (resident_of space_rec.name_of) (loaded_as c.spaces.cells ident)
resident_in c kind.Thread ident = option_map (resident_of thread_rec.name_of) (loaded_as c.threads.cells ident)
resident_in c kind.Mapping ident = option_map (resident_of row_name) (loaded_as c.rows.kept.cells ident)

-- what is loaded with an identifier
abbrev pub resident_as : Contents → Ident → Option Resident
resident_as c ident = resident_in c ident.kind ident

-- all that is loaded, in order of loading
unfoldable pub residents_of : Contents → List Resident
residents_of c = filter_map (λ entry. resident_as c entry.ident) c.issued

-- the content that is loaded with an identifier, of a kind
abbrev pub item_in : Contents → Kind → Ident → Option Item
item_in c kind.Kernel ident = option_map (λ loaded. item.Kernel loaded.value) (loaded_as c.kernels.cells ident)
item_in c kind.Space ident = option_map (λ loaded. item.Space loaded.value) (loaded_as c.spaces.cells ident)
item_in c kind.Thread ident = option_map (λ loaded. item.Thread loaded.value) (loaded_as c.threads.cells ident)
item_in c kind.Mapping ident = option_map (λ loaded. item.Mapping loaded.value) (loaded_as c.rows.kept.cells ident)

-- the content that is loaded with an identifier
abbrev pub item_as : Contents → Ident → Option Item
item_as c ident = item_in c ident.kind ident

-- the name is loaded with that identifier, or with none
abbrev pub IsResidentAs : Contents → Name → Ident → Type 0
IsResidentAs c name ident = (resident : Resident) × (resident_as c ident ≡ Some resident) × (resident.name ≡ name)

abbrev pub HasNoResident : Contents → Name → Type 0
HasNoResident c name = (ident : Ident) (resident : Resident) → resident_as c ident ≡ Some resident → resident.name ≢ name

-- whether what is loaded with an identifier is locked
abbrev pub LockIs : Contents → Ident → Bool → Type 0
LockIs c ident locked = (resident : Resident) → resident_as c ident ≡ Some resident → resident.locked ≡ locked

-- of the slots of a kind: the slot is the lowest that is free, or each is taken
abbrev pub IsLowestFreeOf : Contents → Kind → ℕ → Type 0
IsLowestFreeOf c kind.Kernel slot = IsLowestFree c.kernels.cells slot
IsLowestFreeOf c kind.Space slot = IsLowestFree c.spaces.cells slot
IsLowestFreeOf c kind.Thread slot = IsLowestFree c.threads.cells slot
IsLowestFreeOf c kind.Mapping slot = IsLowestFree c.rows.kept.cells slot

abbrev pub IsFullOf : Contents → Kind → Type 0
IsFullOf c kind.Kernel = IsFull c.kernels.cells
IsFullOf c kind.Space = IsFull c.spaces.cells
IsFullOf c kind.Thread = IsFull c.threads.cells
IsFullOf c kind.Mapping = IsFull c.rows.kept.cells

-- of what is loaded of a kind, the one that has to go, or none may
abbrev pub IsVictimOf : Contents → Kind → List Ident → Ident → Type 0
IsVictimOf c kind.Kernel keep ident = IsVictim c.kernels.cells keep ident
IsVictimOf c kind.Space keep ident = IsVictim c.spaces.cells keep ident
IsVictimOf c kind.Thread keep ident = IsVictim c.threads.cells keep ident
IsVictimOf c kind.Mapping keep ident = IsVictim c.rows.kept.cells keep ident

abbrev pub NoneMayGoOf : Contents → Kind → List Ident → Type 0
NoneMayGoOf c kind.Kernel keep = NoneMayGo c.kernels.cells keep
NoneMayGoOf c kind.Space keep = NoneMayGo c.spaces.cells keep
NoneMayGoOf c kind.Thread keep = NoneMayGo c.threads.cells keep
NoneMayGoOf c kind.Mapping keep = NoneMayGo c.rows.kept.cells keep

-- the names that stand, in declared order
abbrev pub names_of : Contents → Kind → List Name
names_of c kind.Kernel = map (λ number. name.Kernel (record { 0 = number })) (range_with_len 0 c.kernel_count)
names_of c kind.Space = map (λ number. name.Space (record { 0 = number })) (range_with_len 0 c.space_count)
names_of c kind.Thread = map (λ number. name.Thread (record { 0 = number })) (range_with_len 0 c.thread_count)
names_of c kind.Mapping = c.rows.names
