use Rattle.std.proofs.Common.{sym}
use Rattle.kind_store.proofs.SeenLemmas.{no_content, one_seen, seat_absent, seat_content, seat_found}
use Rattle.kind_store.proofs.store.KindStore.found.Goals as goal

pub returns-in_err-seat-clause-content : goal.returns-in_err-seat-clause-content
returns-in_err-seat-clause-content g c =
    let i = c.self.inside in
    rw (c.from_residual.ensures, ← c.self.view_is) (sym (no_content g.T.Descriptor.called g.T.Descriptor.KIND i.seats c.self.invariant c.args.name c.in_err-seat.ensures.unloaded c.in_err-seat.ensures.absent))

pub returns-in_err-seat-clause-one : goal.returns-in_err-seat-clause-one
returns-in_err-seat-clause-one g c =
    let i = c.self.inside in
    one_seen g.T.Descriptor.called g.T.Descriptor.KIND i.seats.cells i.seats.shelf c.self.invariant _ c.self.view_is

pub returns-clause-content : goal.returns-clause-content
returns-clause-content g c =
    let i = c.self.inside in
    rw (← c.self.view_is) (sym (seat_content g.T.Descriptor.called g.T.Descriptor.KIND i.seats c.self.invariant c.args.name c.in_ok-seat.seat.now c.in_ok-seat.ensures.found))

pub returns-clause-loaded : goal.returns-clause-loaded
returns-clause-loaded g c = rw (c.ident-ident.ensures, ← c.self.view_is) (seat_found g.T.Descriptor.called c.self.inside.seats c.args.name c.in_ok-seat.seat.now c.in_ok-seat.ensures.found)

pub returns-clause-shelved : goal.returns-clause-shelved
returns-clause-shelved g c = rw (c.ident-ident.ensures, ← c.self.view_is) (seat_absent g.T.Descriptor.called c.self.inside.seats c.args.name c.in_ok-seat.seat.now c.in_ok-seat.ensures.found)

pub returns-clause-one : goal.returns-clause-one
returns-clause-one g c =
    let i = c.self.inside in
    one_seen g.T.Descriptor.called g.T.Descriptor.KIND i.seats.cells i.seats.shelf c.self.invariant _ c.self.view_is
