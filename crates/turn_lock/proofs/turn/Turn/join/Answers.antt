use Rattle.std.proofs.Common.{rules, arith, ◌<◌, ap}
use Rattle.turn_lock.proofs.Passes.{joins_ranges, compares_lists}
use Rattle.turn_lock.proofs.turn.Turn.join.Goals as goal

pub join_seat-requires : goal.join_seat-requires
join_seat-requires g c = let p = c.args.pass in let q = c.args.ended in let v = p.seat.me.0 in let w = q.seat.me.0 in
    let a : v.first < v.end = omega (arith, p.signs) in let b : w.first < w.end = omega (arith, q.signs) in (
      search rules,
      search rules,
      search rules,
      search rules,
      joins_ranges g.V.History.entries g.V.History.maker _ _ v w p.at_rest.0 q.at_rest.0 a b c.requires.neighbours,
    )

pub load-requires : goal.load-requires
load-requires g c = (search rules, search rules, compares_lists g.V.History.entries g.V.History.maker _ _ _ _ (ap (λ m. m.0.stage) c.join_seat.ensures.2))
