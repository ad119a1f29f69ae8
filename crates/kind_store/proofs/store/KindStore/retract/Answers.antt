use Rattle.std.proofs.Common.{arith}
use Rattle.owner_shelf.specs.Rows.{rows_without}
use Rattle.kind_store.specs.Kept.{kept_in}
use Rattle.kind_store.proofs.ContentLemmas.{contents-retracting}
use Rattle.kind_store.proofs.SoundLemmas.{count-retracting, unloaded}
use Rattle.kind_store.proofs.store.KindStore.retract.Goals as goal

pub returns-clause-room : goal.returns-clause-room
returns-clause-room g c =
    let i = c.self.inside in
    let counted = count-retracting g.T.Descriptor.called g.T.Descriptor.KIND i.seats.cells i.seats.shelf c.self.invariant c.args.name c.remove.result c.remove.ensures.content in
    rw (← c.self.view_is, c.remove.ensures.cells, c.remove.ensures.shelf) (omega (arith, counted, c.self.invariant.roomy))

pub returns-clause-contents : goal.returns-clause-contents
returns-clause-contents g c =
    let i = c.self.inside in
    let shelf = i.seats.shelf in
    let absent = unloaded g.T.Descriptor.called g.T.Descriptor.KIND i.seats.cells shelf c.self.invariant c.args.name c.remove.result c.remove.ensures.content in
    rw (← c.self.view_is, c.remove.ensures.cells, c.remove.ensures.shelf) (contents-retracting g.T.Descriptor.called i.seats.cells shelf.rows (kept_in i.seats.cells shelf).room (kept_in i.seats.cells (record shelf { rows = rows_without g.T.Descriptor.called shelf.rows c.args.name })).room c.args.name absent)
