use Rattle.kind_store.proofs.SeenLemmas.{one_seen}
use Rattle.kind_store.proofs.store.KindStore.each_is_one.Goals as goal

pub returns : goal.returns
returns g c =
    let i = c.self.inside in
    one_seen g.T.Descriptor.called g.T.Descriptor.KIND i.seats.cells i.seats.shelf c.self.invariant _ c.self.view_is
