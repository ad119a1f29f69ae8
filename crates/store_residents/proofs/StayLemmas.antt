-- How many slots there are of a kind, once something happened.
use Rattle.std.proofs.Common.{◌≡◌, ℕ, ◌+◌, Bool, List, length, Option, None, Some, ◌∙◌, ap, refl}
use Rattle.std.specs.Option.{option_map}
use Rattle.std.proofs.lemmas.List.{length-replicate, length-set}
use Rattle.cache_ident.specs.declared.idents.Ident.{Ident}
use Rattle.cache_ident.specs.declared.idents.Kind.{Kind}
use Rattle.cache_ident.specs.declared.idents.Kind.TheVariants as kind
use Rattle.cache_ident.specs.declared.names.Caps.{Caps}
use Rattle.cache_ident.specs.declared.names.KernelNo.{KernelNo}
use Rattle.cache_ident.specs.declared.names.Name.{Name}
use Rattle.cache_ident.specs.declared.names.Name.TheVariants as name
use Rattle.cache_ident.specs.declared.rolls.Issued.{Issued}
use Rattle.desc_stores.specs.slot_cache.specs.declared.loaded.Loaded.{Loaded}
use Rattle.desc_stores.specs.slot_cache.specs.Cells.{cell_at, changed, just_loaded, with_lock, with_value}
use Rattle.desc_stores.specs.slot_cache.specs.Rows.{row_name}
use Rattle.desc_stores.specs.kernel_cache.specs.Kernels as kernel_rec
use Rattle.desc_stores.specs.space_cache.specs.Spaces as space_rec
use Rattle.desc_stores.specs.thread_cache.specs.Threads as thread_rec
use Rattle.desc_stores.specs.kernel_cache.specs.declared.KernelRec.{KernelRec}
use Rattle.desc_stores.specs.space_cache.specs.declared.SpaceRec.{SpaceRec}
use Rattle.desc_stores.specs.thread_cache.specs.declared.ThreadRec.{ThreadRec}
use Rattle.desc_stores.specs.row_store.specs.Kept.{KeptRows}
use Rattle.desc_stores.specs.kind_store.specs.Changes.{IsLeaving, IsLoading}
use Rattle.desc_stores.specs.kind_store.specs.Kept.{Kept}
use Rattle.desc_stores.specs.declared.items.Item.{Item}
use Rattle.desc_stores.specs.declared.items.Item.TheVariants as item
use Rattle.desc_stores.specs.Changes.{relocked, relocked_in, with_item, IsDeclaring, IsLeavingIn, IsLeavingOf, IsLoadingOf, IsNothing, OnlyMakesRoom}
use Rattle.desc_stores.specs.Contents.{Contents}
use Rattle.store_residents.specs.Slots.{slots_of, HasSlots, KeepsSlots}

module _ {T : Type 0} where
  length-loading : (called : T → Name) (old new : Kept T) (n : Name) (ident : Ident) → IsLoading called old new n ident → length new.cells ≡ length old.cells
  length-loading called old new n ident is = ap length is.cells ∙ length-set old.cells ident.slot (Some (just_loaded ident is.value))

  length-leaving : (old new : Kept T) (ident : Ident) (owner : KernelNo) → IsLeaving old new ident owner → length new.cells ≡ length old.cells
  length-leaving old new ident owner is = ap length is.cells ∙ length-set old.cells ident.slot None

  length-changed : (cells : List (Option (Loaded T))) (slot : ℕ) (change : Loaded T → Loaded T) → length (changed cells slot change) ≡ length cells
  length-changed cells slot change = length-set cells slot (option_map change (cell_at cells slot))

pub slots-nothing : (caps : Caps) (c : Contents) → IsNothing caps c → HasSlots caps c
slots-nothing caps c is kind.Kernel = ap (λ k. length k.cells) is.kernels ∙ length-replicate caps.kernels None
slots-nothing caps c is kind.Space = ap (λ k. length k.cells) is.spaces ∙ length-replicate caps.spaces None
slots-nothing caps c is kind.Thread = ap (λ k. length k.cells) is.threads ∙ length-replicate caps.threads None
slots-nothing caps c is kind.Mapping = ap (λ k. length k.kept.cells) is.rows ∙ length-replicate caps.mappings None

-- what changes in one kind leaves the slots of the others
pub slots-kernels : (c : Contents) (k : Kept KernelRec) (count : ℕ) (issued : List Issued) (spare : ℕ) → length k.cells ≡ length c.kernels.cells → KeepsSlots c (record c { kernels = k; kernel_count = count; issued = issued; spare = spare })
slots-kernels c k count issued spare same kind.Kernel = same
slots-kernels c k count issued spare same kind.Space = refl
slots-kernels c k count issued spare same kind.Thread = refl
slots-kernels c k count issued spare same kind.Mapping = refl

pub slots-spaces : (c : Contents) (k : Kept SpaceRec) (count : ℕ) (issued : List Issued) (spare : ℕ) → length k.cells ≡ length c.spaces.cells → KeepsSlots c (record c { spaces = k; space_count = count; issued = issued; spare = spare })
slots-spaces c k count issued spare same kind.Kernel = refl
slots-spaces c k count issued spare same kind.Space = same
slots-spaces c k count issued spare same kind.Thread = refl
slots-spaces c k count issued spare same kind.Mapping = refl

pub slots-threads : (c : Contents) (k : Kept ThreadRec) (count : ℕ) (issued : List Issued) (spare : ℕ) → length k.cells ≡ length c.threads.cells → KeepsSlots c (record c { threads = k; thread_count = count; issued = issued; spare = spare })
slots-threads c k count issued spare same kind.Kernel = refl
slots-threads c k count issued spare same kind.Space = refl
slots-threads c k count issued spare same kind.Thread = same
slots-threads c k count issued spare same kind.Mapping = refl

pub slots-rows : (c : Contents) (rows : KeptRows) (issued : List Issued) (spare : ℕ) → length rows.kept.cells ≡ length c.rows.kept.cells → KeepsSlots c (record c { rows = rows; issued = issued; spare = spare })
slots-rows c rows issued spare same kind.Kernel = refl
slots-rows c rows issued spare same kind.Space = refl
slots-rows c rows issued spare same kind.Thread = refl
slots-rows c rows issued spare same kind.Mapping = same

-- of what is equal the slots are as many
pub slots-is : (old c new : Contents) → new ≡ c → KeepsSlots old c → KeepsSlots old new
slots-is old c new is keeps k = ap (λ (x : Contents). slots_of x k) is ∙ keeps k

pub slots-loading : (old new : Contents) (n : Name) (ident : Ident) → IsLoadingOf old new n ident → KeepsSlots old new
slots-loading old new (name.Kernel number) ident is = slots-is old (record old { kernels = new.kernels; issued = new.issued; spare = new.spare }) new is.1 (slots-kernels old new.kernels old.kernel_count new.issued new.spare (length-loading kernel_rec.name_of old.kernels new.kernels (name.Kernel number) ident is.0))
slots-loading old new (name.Space number) ident is = slots-is old (record old { spaces = new.spaces; issued = new.issued; spare = new.spare }) new is.1 (slots-spaces old new.spaces old.space_count new.issued new.spare (length-loading space_rec.name_of old.spaces new.spaces (name.Space number) ident is.0))
slots-loading old new (name.Thread number) ident is = slots-is old (record old { threads = new.threads; issued = new.issued; spare = new.spare }) new is.1 (slots-threads old new.threads old.thread_count new.issued new.spare (length-loading thread_rec.name_of old.threads new.threads (name.Thread number) ident is.0))
slots-loading old new (name.Mapping space vpn) ident is = slots-is old (record old { rows = record old.rows { kept = new.rows.kept }; issued = new.issued; spare = new.spare }) new is.1 (slots-rows old (record old.rows { kept = new.rows.kept }) new.issued new.spare (length-loading row_name old.rows.kept new.rows.kept (name.Mapping space vpn) ident is.0))

pub slots-leaving : (old new : Contents) (ident : Ident) (owner : KernelNo) → IsLeavingOf old new ident owner → KeepsSlots old new
slots-leaving old new ident owner is = by ident.kind is
  where
    by : (k : Kind) → IsLeavingIn k old new ident owner → KeepsSlots old new
    by kind.Kernel is = slots-is old (record old { kernels = new.kernels; issued = new.issued }) new is.1 (slots-kernels old new.kernels old.kernel_count new.issued old.spare (length-leaving old.kernels new.kernels ident owner is.0))
    by kind.Space is = slots-is old (record old { spaces = new.spaces; issued = new.issued }) new is.1 (slots-spaces old new.spaces old.space_count new.issued old.spare (length-leaving old.spaces new.spaces ident owner is.0))
    by kind.Thread is = slots-is old (record old { threads = new.threads; issued = new.issued }) new is.1 (slots-threads old new.threads old.thread_count new.issued old.spare (length-leaving old.threads new.threads ident owner is.0))
    by kind.Mapping is = slots-is old (record old { rows = record old.rows { kept = new.rows.kept }; issued = new.issued }) new is.1 (slots-rows old (record old.rows { kept = new.rows.kept }) new.issued old.spare (length-leaving old.rows.kept new.rows.kept ident owner is.0))

pub slots-locking : (old new : Contents) (ident : Ident) (on : Bool) → new ≡ relocked old ident on → KeepsSlots old new
slots-locking old new ident on is = slots-is old (relocked old ident on) new is (by ident.kind)
  where
    by : (k : Kind) → KeepsSlots old (relocked_in k old ident on)
    by kind.Kernel = slots-kernels old (record old.kernels { cells = changed old.kernels.cells ident.slot (with_lock on) }) old.kernel_count old.issued old.spare (length-changed old.kernels.cells ident.slot (with_lock on))
    by kind.Space = slots-spaces old (record old.spaces { cells = changed old.spaces.cells ident.slot (with_lock on) }) old.space_count old.issued old.spare (length-changed old.spaces.cells ident.slot (with_lock on))
    by kind.Thread = slots-threads old (record old.threads { cells = changed old.threads.cells ident.slot (with_lock on) }) old.thread_count old.issued old.spare (length-changed old.threads.cells ident.slot (with_lock on))
    by kind.Mapping = slots-rows old (record old.rows { kept = record old.rows.kept { cells = changed old.rows.kept.cells ident.slot (with_lock on) } }) old.issued old.spare (length-changed old.rows.kept.cells ident.slot (with_lock on))

pub slots-changing : (old new : Contents) (ident : Ident) (it : Item) → new ≡ with_item old ident it → KeepsSlots old new
slots-changing old new ident it is = slots-is old (with_item old ident it) new is (by it)
  where
    by : (it : Item) → KeepsSlots old (with_item old ident it)
    by (item.Kernel kernel) = slots-kernels old (record old.kernels { cells = changed old.kernels.cells ident.slot (with_value kernel) }) old.kernel_count old.issued old.spare (length-changed old.kernels.cells ident.slot (with_value kernel))
    by (item.Space space) = slots-spaces old (record old.spaces { cells = changed old.spaces.cells ident.slot (with_value space) }) old.space_count old.issued old.spare (length-changed old.spaces.cells ident.slot (with_value space))
    by (item.Thread thread) = slots-threads old (record old.threads { cells = changed old.threads.cells ident.slot (with_value thread) }) old.thread_count old.issued old.spare (length-changed old.threads.cells ident.slot (with_value thread))
    by (item.Mapping row) = slots-rows old (record old.rows { kept = record old.rows.kept { cells = changed old.rows.kept.cells ident.slot (with_value row) } }) old.issued old.spare (length-changed old.rows.kept.cells ident.slot (with_value row))

pub slots-declaring : (old new : Contents) (owner : KernelNo) (it : Item) → IsDeclaring old new owner it → KeepsSlots old new
slots-declaring old new owner (item.Kernel kernel) is = slots-is old (record old { kernels = new.kernels; kernel_count = old.kernel_count + 1 }) new is.2 (slots-kernels old new.kernels (old.kernel_count + 1) old.issued old.spare (ap length is.0.cells))
slots-declaring old new owner (item.Space space) is = slots-is old (record old { spaces = new.spaces; space_count = old.space_count + 1 }) new is.2 (slots-spaces old new.spaces (old.space_count + 1) old.issued old.spare (ap length is.0.cells))
slots-declaring old new owner (item.Thread thread) is = slots-is old (record old { threads = new.threads; thread_count = old.thread_count + 1 }) new is.2 (slots-threads old new.threads (old.thread_count + 1) old.issued old.spare (ap length is.0.cells))
slots-declaring old new owner (item.Mapping row) is = slots-is old (record old { rows = new.rows }) new is.3 (slots-rows old new.rows old.issued old.spare (ap length is.0.cells))

pub slots-roomier : (old new : Contents) → OnlyMakesRoom old new → KeepsSlots old new
slots-roomier old new room kind.Kernel = ap (λ (c : Contents). length c.kernels.cells) room.is
slots-roomier old new room kind.Space = ap (λ (c : Contents). length c.spaces.cells) room.is
slots-roomier old new room kind.Thread = ap (λ (c : Contents). length c.threads.cells) room.is
slots-roomier old new room kind.Mapping = ap (λ (c : Contents). length c.rows.kept.cells) room.is

-- only the rows changed, and not in their slots
pub slots-retracting : (old new : Contents) → new ≡ record old { rows = new.rows } → new.rows.kept.cells ≡ old.rows.kept.cells → KeepsSlots old new
slots-retracting old new is cells = slots-is old (record old { rows = new.rows }) new is (slots-rows old new.rows old.issued old.spare (ap length cells))

-- only how many identifiers can be issued changed
pub slots-reserving : (old new : Contents) → new ≡ record old { spare = new.spare } → KeepsSlots old new
slots-reserving old new is = slots-is old (record old { spare = new.spare }) new is (slots-rows old old.rows old.issued new.spare refl)

pub slots-kept : (caps : Caps) (old new : Contents) → HasSlots caps old → KeepsSlots old new → HasSlots caps new
slots-kept caps old new slots keeps k = keeps k ∙ slots k
