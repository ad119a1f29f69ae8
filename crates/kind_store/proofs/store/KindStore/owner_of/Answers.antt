use Rattle.std.proofs.Common.{sym, subst, ap}
use Rattle.std.specs.Option.{option_map}
use Rattle.owner_shelf.specs.declared.shelved.Shelved.{Shelved}
use Rattle.owner_shelf.specs.Rows.{HasNoRow}
use Rattle.owner_shelf.proofs.RowLaws.{under-absent}
use Rattle.kind_store.proofs.store.KindStore.owner_of.Goals as goal

pub returns-in_err-seat : goal.returns-in_err-seat
returns-in_err-seat g c =
    let i = c.self.inside in
    rw (c.from_residual.ensures, ← c.self.view_is) (sym (ap (option_map (λ (r : Shelved g.row.T.Denot). r.owner)) (under-absent g.T.Descriptor.called i.seats.shelf.rows c.args.name c.in_err-seat.ensures.absent)))

pub returns-then-seat : goal.returns-then-seat
returns-then-seat g c =
    let i = c.self.inside in
    let of = c.in_ok-seat.ensures.found in
    let seat = c.in_ok-seat.seat.now in
    let apart = subst (HasNoRow g.T.Descriptor.called i.seats.shelf.rows) of.named (c.self.invariant.apart seat.loaded.ident.slot seat.loaded (of.loaded c.if-seat.true)) in
    rw (← c.self.view_is) (sym (ap (option_map (λ (r : Shelved g.row.T.Denot). r.owner)) (under-absent g.T.Descriptor.called i.seats.shelf.rows c.args.name apart)))

pub returns-else-seat : goal.returns-else-seat
returns-else-seat g c =
    let row = (c.in_ok-seat.ensures.found.shelved c.if-seat.false).row in
    rw (← c.self.view_is) (sym (ap (option_map (λ (r : Shelved g.row.T.Denot). r.owner)) row))
