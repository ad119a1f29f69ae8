use Rattle.kind_store.proofs.SeenLemmas.{one_seen, seat_absent, seat_found}
use Rattle.kind_store.proofs.store.KindStore.resident_near.Goals as goal

pub returns-in_err-seat-clause-absent : goal.returns-in_err-seat-clause-absent
returns-in_err-seat-clause-absent g c = rw (c.from_residual.ensures, ← c.self.view_is) c.in_err-seat.ensures.unloaded

pub returns-in_err-seat-clause-one : goal.returns-in_err-seat-clause-one
returns-in_err-seat-clause-one g c =
    let i = c.self.inside in
    one_seen g.T.Descriptor.called g.T.Descriptor.KIND i.seats.cells i.seats.shelf c.self.invariant _ c.self.view_is

pub returns-clause-found : goal.returns-clause-found
returns-clause-found g c = rw (c.ident.ensures, ← c.self.view_is) (seat_found g.T.Descriptor.called c.self.inside.seats c.args.name c.in_ok-seat.seat.now c.in_ok-seat.ensures.found)

pub returns-clause-absent : goal.returns-clause-absent
returns-clause-absent g c = rw (c.ident.ensures, ← c.self.view_is) (seat_absent g.T.Descriptor.called c.self.inside.seats c.args.name c.in_ok-seat.seat.now c.in_ok-seat.ensures.found)

pub returns-clause-one : goal.returns-clause-one
returns-clause-one g c =
    let i = c.self.inside in
    one_seen g.T.Descriptor.called g.T.Descriptor.KIND i.seats.cells i.seats.shelf c.self.invariant _ c.self.view_is
