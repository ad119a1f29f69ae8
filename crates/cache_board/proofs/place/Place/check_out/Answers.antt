use Rattle.std.proofs.Common.{Some, refl, ap}
use Rattle.board_core.specs.quantum.specs.Ahead.{Ahead}
use Rattle.cache_board.specs.declared.place.Place.{Place}
use Rattle.cache_board.proofs.place.Place.check_out.Goals as goal

pub returns : goal.returns
returns c =
    let e = c.in-Some.ensures in
    (c.in-Some.ticket, refl, e.chosen, e.ticket, e.out, ap (λ (q : Ahead). let p : Place = record { ticket = Some c.in-Some.ticket; quantum = q } in p) c.begin.ensures)
