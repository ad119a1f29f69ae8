use Rattle.row_store.proofs.SoundLemmas.{named_seen}
use Rattle.row_store.proofs.store.RowStore.each_is_one.Goals as goal

pub returns-clause-named : goal.returns-clause-named
returns-clause-named c =
    let i = c.self.inside in
    named_seen i.room i.rows i.order i.signals i.by_frame c.self.invariant c.args.self.now c.self.view_is
