-- The names that are left to go over.
use Rattle.std.specs.Prelude.{ℕ, ◌-◌, List, map}
use Rattle.std.specs.List.{range_with_len}
use Rattle.std.specs.declared.ops.Range.{Range}
use Rattle.cache_ident.specs.declared.names.Name.{Name}
use Rattle.desc_groups.specs.desc_stores.specs.Sound.{kernel_named, space_named, thread_named}
use Rattle.desc_tables.specs.declared.names.Left.{Left}
use Rattle.desc_tables.specs.declared.names.Left.TheVariants as left

-- the numbers of a range
abbrev pub numbers_of : Range ℕ → List ℕ
numbers_of range = range_with_len range.start (range.end - range.start)

-- their names
abbrev pub kernels_left : Range ℕ → List Name
kernels_left numbers = map kernel_named (numbers_of numbers)

abbrev pub spaces_left : Range ℕ → List Name
spaces_left numbers = map space_named (numbers_of numbers)

abbrev pub threads_left : Range ℕ → List Name
threads_left numbers = map thread_named (numbers_of numbers)

-- all that is left
abbrev pub names_in : Left → List Name
names_in (left.Kernels numbers) = kernels_left numbers
names_in (left.Spaces numbers) = spaces_left numbers
names_in (left.Threads numbers) = threads_left numbers
names_in (left.Rows names) = names
