use Rattle.std.proofs.Common.{ap}
use Rattle.cache_ident.specs.declared.idents.Ident.{Ident}
use Rattle.sorted_list.specs.Sorted.{Sorted}
use Rattle.row_store.specs.declared.frames.RowsOf.{RowsOf}
use Rattle.row_store.proofs.ContentLemmas.{no_rows}
use Rattle.row_store.proofs.SoundLemmas.{sound-new}
use Rattle.row_store.proofs.store.RowStore.new.Goals as goal

pub invariant_of-result : goal.invariant_of-result
invariant_of-result c = sound-new c.args.cap c.in_ok-new.field-0 c.new-2.result c.new-3.result c.in_ok-new-2.field-0 c.in_ok-new.ensures (no_rows c.args.cap c.in_ok-new.field-0 c.in_ok-new.ensures) c.new-2.ensures c.new-3.ensures (ap (λ (s : Sorted RowsOf Ident). s.entries) c.in_ok-new-2.ensures) (ap (λ (s : Sorted RowsOf Ident). s.room) c.in_ok-new-2.ensures)
