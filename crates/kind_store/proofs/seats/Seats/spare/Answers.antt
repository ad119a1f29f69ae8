use Rattle.std.proofs.Common.{arith}
use Rattle.kind_store.proofs.seats.Seats.spare.Goals as goal

pub returns : goal.returns
returns g c =
    let i = c.self.inside in
    let s = c.self.invariant in
    rw (← c.self.view_is) (omega (arith, s.all, s.index_is.few, c.room.ensures.room, c.len.ensures.len))
