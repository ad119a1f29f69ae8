use Rattle.row_store.proofs.SoundLemmas.{signals_seen}
use Rattle.row_store.proofs.store.RowStore.signal_rows.Goals as goal

pub returns : goal.returns
returns c =
    let i = c.self.inside in
    rw c.run.ensures.values (signals_seen i.room i.rows i.order i.signals i.by_frame c.self.invariant c.args.frame c.args.self.now c.self.view_is)
