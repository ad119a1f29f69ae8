use Rattle.std.proofs.Common.{false}
use Rattle.row_store.proofs.FrameLemmas.{each_once, rows_seen}
use Rattle.row_store.proofs.store.RowStore.other_rows.Goals as goal

pub returns-clause-rows : goal.returns-clause-rows
returns-clause-rows c =
    let i = c.self.inside in
    rw (c.run.ensures.values, ← c.self.view_is) (rows_seen i.rows.cells i.by_frame c.self.invariant.frames_listed (record { frame = c.args.frame; message = false }))

pub returns-clause-once : goal.returns-clause-once
returns-clause-once c =
    let i = c.self.inside in
    rw c.run.ensures.values (each_once i.rows.cells i.by_frame c.self.invariant.frames_listed (record { frame = c.args.frame; message = false }))
