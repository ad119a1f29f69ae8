-- Contents of the four kinds.
use Rattle.std.specs.Prelude.{◌≡◌}
use Rattle.cache_ident.specs.declared.names.Name.{Name}
use Rattle.slot_cache.specs.Rows.{row_name}
use Rattle.kernel_cache.specs.Kernels as kernel_rec
use Rattle.space_cache.specs.Spaces as space_rec
use Rattle.thread_cache.specs.Threads as thread_rec
use Rattle.desc_stores.specs.declared.items.Item.{Item}
use Rattle.desc_stores.specs.declared.items.Item.TheVariants as item
use Rattle.desc_stores.specs.declared.items.ItemRef.{ItemRef}
use Rattle.desc_stores.specs.declared.items.ItemRef.TheVariants as ref

-- the name of a content
abbrev pub name_of : Item → Name
name_of (item.Kernel kernel) = kernel_rec.name_of kernel
name_of (item.Space space) = space_rec.name_of space
name_of (item.Thread thread) = thread_rec.name_of thread
name_of (item.Mapping row) = row_name row

-- what a reference points to
abbrev pub shown : ItemRef → Item
shown (ref.Kernel kernel) = item.Kernel kernel.now
shown (ref.Space space) = item.Space space.now
shown (ref.Thread thread) = item.Thread thread.now
shown (ref.Mapping row) = item.Mapping row.now

-- the one may stand in the place of the other: it has its name, and a row also its frame, its flags and its receiver
abbrev pub Agrees : Item → Item → Type 0
Agrees (item.Kernel was) (item.Kernel kernel) = was.no ≡ kernel.no
Agrees (item.Space was) (item.Space space) = was.no ≡ space.no
Agrees (item.Thread was) (item.Thread thread) = was.no ≡ thread.no
Agrees (item.Mapping was) (item.Mapping row) = (row_name was ≡ row_name row) × (was.frame ≡ row.frame) × (was.flags ≡ row.flags) × (was.receiver ≡ row.receiver)
Agrees _ _ = ⊥
