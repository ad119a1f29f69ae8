-- The slots of each kind.
use Rattle.cache_ident.specs.declared.idents.Kind.{Kind}
use Rattle.cache_ident.specs.declared.idents.Kind.TheVariants as kinds
use Rattle.residents.specs.declared.slots.Slots.{Slots}
use Rattle.journal_tables.specs.declared.kind_slots.KindSlots.{KindSlots}

-- those of one kind
abbrev pub slots_of : KindSlots → Kind → Slots
slots_of slots kinds.Kernel = slots.kernels
slots_of slots kinds.Space = slots.spaces
slots_of slots kinds.Thread = slots.threads
slots_of slots kinds.Mapping = slots.mappings
