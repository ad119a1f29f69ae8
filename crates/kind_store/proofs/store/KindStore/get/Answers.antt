use Rattle.kind_store.proofs.SeenLemmas.{one_seen}
use Rattle.kind_store.proofs.store.KindStore.get.Goals as goal

pub returns-clause-one : goal.returns-clause-one
returns-clause-one g c =
    let i = c.self.inside in
    one_seen g.T.Descriptor.called g.T.Descriptor.KIND i.seats.cells i.seats.shelf c.self.invariant _ c.self.view_is

pub returns-clause-content : goal.returns-clause-content
returns-clause-content g c = rw (← c.self.view_is) c.get.ensures.content

pub returns-clause-absent : goal.returns-clause-absent
returns-clause-absent g c = rw (← c.self.view_is) c.get.ensures.absent
