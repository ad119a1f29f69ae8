-- What stays once a content came in the place of that of its name, in its slot or on the shelf.
use Rattle.std.proofs.Common.{◌≡◌, List, length, Option, ap, sym, ◌∙◌}
use Rattle.std.specs.Option.{option_map}
use Rattle.std.proofs.lemmas.List.{length-map}
use Rattle.cache_ident.specs.declared.names.Name.{Name}
use Rattle.slot_cache.specs.declared.loaded.Loaded.{Loaded}
use Rattle.slot_cache.specs.Rows.{row_name}
use Rattle.phys_groups.specs.declared.rows.Row.{Row}
use Rattle.kernel_cache.specs.declared.KernelRec.{KernelRec}
use Rattle.kernel_cache.specs.Kernels as kernel_rec
use Rattle.desc_groups.specs.space_cache.specs.declared.SpaceRec.{SpaceRec}
use Rattle.desc_groups.specs.space_cache.specs.Spaces as space_rec
use Rattle.thread_cache.specs.declared.ThreadRec.{ThreadRec}
use Rattle.thread_cache.specs.Threads as thread_rec
use Rattle.row_store.specs.kind_store.specs.Kept.{Kept}
use Rattle.row_store.specs.kind_store.specs.Changes.{cells_with, loaded_with, with_content}
use Rattle.desc_groups.specs.desc_stores.specs.declared.items.Item.{Item}
use Rattle.desc_groups.specs.desc_stores.specs.declared.items.Item.TheVariants as item
use Rattle.desc_groups.specs.desc_stores.specs.Changes.{with_named}
use Rattle.desc_groups.specs.desc_stores.specs.Contents.{Contents}
use Rattle.desc_groups.specs.shown_state.specs.Shown.{HasSameNames}
use Rattle.desc_groups.specs.shown_state.proofs.MoveLemmas.{names_in_kernels, names_in_rows, names_in_spaces, names_in_threads}
use Rattle.desc_groups.specs.store_residents.specs.Slots.{KeepsSlots}
use Rattle.desc_groups.specs.store_residents.proofs.StayLemmas.{slots-is, slots-kernels, slots-rows, slots-spaces, slots-threads}

length-named : {T : Type 0} (called : T → Name) (cells : List (Option (Loaded T))) (name : Name) (value : T) → length (cells_with called cells name value) ≡ length cells
length-named called cells name value = length-map cells (option_map (loaded_with called name value))

-- the same names stand
pub names_named : (old new : Contents) (it : Item) → new ≡ with_named old it → HasSameNames old new
names_named old new (item.Kernel kernel) is = names_in_kernels old new (is ∙ ap (λ (k : Kept KernelRec). let c : Contents = record old { kernels = k } in c) (sym (ap (λ (c : Contents). c.kernels) is)))
names_named old new (item.Space space) is = names_in_spaces old new (is ∙ ap (λ (k : Kept SpaceRec). let c : Contents = record old { spaces = k } in c) (sym (ap (λ (c : Contents). c.spaces) is)))
names_named old new (item.Thread thread) is = names_in_threads old new (is ∙ ap (λ (k : Kept ThreadRec). let c : Contents = record old { threads = k } in c) (sym (ap (λ (c : Contents). c.threads) is)))
names_named old new (item.Mapping row) is = names_in_rows old new (is ∙ ap (λ (k : Kept Row). let c : Contents = record old { rows = record old.rows { kept = k } } in c) (sym (ap (λ (c : Contents). c.rows.kept) is)))

-- in as many slots
pub slots_named : (old new : Contents) (it : Item) → new ≡ with_named old it → KeepsSlots old new
slots_named old new it is = slots-is old (with_named old it) new is (by it)
  where
    by : (it : Item) → KeepsSlots old (with_named old it)
    by (item.Kernel kernel) = slots-kernels old (with_content kernel_rec.name_of old.kernels (kernel_rec.name_of kernel) kernel) old.kernel_count old.issued old.spare (length-named kernel_rec.name_of old.kernels.cells (kernel_rec.name_of kernel) kernel)
    by (item.Space space) = slots-spaces old (with_content space_rec.name_of old.spaces (space_rec.name_of space) space) old.space_count old.issued old.spare (length-named space_rec.name_of old.spaces.cells (space_rec.name_of space) space)
    by (item.Thread thread) = slots-threads old (with_content thread_rec.name_of old.threads (thread_rec.name_of thread) thread) old.thread_count old.issued old.spare (length-named thread_rec.name_of old.threads.cells (thread_rec.name_of thread) thread)
    by (item.Mapping row) = slots-rows old (record old.rows { kept = with_content row_name old.rows.kept (row_name row) row }) old.issued old.spare (length-named row_name old.rows.kept.cells (row_name row) row)
