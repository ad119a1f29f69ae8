use Rattle.turn_lock.proofs.Calls.{one_turn}
use Rattle.turn_lock.proofs.laws.at_most_one_holds.Goals as goal

pub returns : goal.returns
returns g c s one other r at_one at_other =
    one_turn g.V.History.entries g.V.History.maker s r _ _ one.slot.seat.me.0 other.slot.seat.me.0 at_one at_other one.slot.taken_out.0 other.slot.taken_out.0
