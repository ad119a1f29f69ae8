use Rattle.std.proofs.Common.{rules, ℕ, ◌<◌, subst}
use Rattle.turn_lock.proofs.Passes.{splits_range}
use Rattle.turn_lock.proofs.turn.Turn.split_at.Goals as goal

pub split_seat-rest-requires : goal.split_seat-rest-requires
split_seat-rest-requires g c = let v = c.args.pass.seat.me.0 in (
  search rules,
  search rules,
  splits_range g.V.History.entries g.V.History.maker _ v g.C.Cut.at c.args.pass.at_rest.0 (subst (λ (z : ℕ). v.first < z) c.requires.cut c.requires.inside.0) (subst (λ (z : ℕ). z < v.end) c.requires.cut c.requires.inside.1),
)
