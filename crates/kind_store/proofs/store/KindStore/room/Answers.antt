use Rattle.kind_store.proofs.SeenLemmas.{one_seen}
use Rattle.kind_store.proofs.store.KindStore.room.Goals as goal

pub returns-clause-one : goal.returns-clause-one
returns-clause-one g c =
    let i = c.self.inside in
    one_seen g.T.Descriptor.called g.T.Descriptor.KIND i.seats.cells i.seats.shelf c.self.invariant _ c.self.view_is
