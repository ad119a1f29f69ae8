use Rattle.std.proofs.Common.{rules, arith, ◌<◌, sym, ap, ◌∙◌, subst}
use Rattle.turn_lock.proofs.Entering.{draws_ticket}
use Rattle.turn_lock.proofs.turn.Turn.draw.Goals as goal

pub compare_exchange-found-requires : goal.compare_exchange-found-requires
compare_exchange-found-requires g c = let same = c.loop.invariant.2 in (
  search rules,
  search rules,
  draws_ticket g.V.History.entries g.V.History.maker _ _ _ _ (omega arith) (ap (λ m. m.0.stage) same ∙ c.requires.idle)
      (subst (λ m. m.0.first < m.0.end) (sym same) c.requires.range),
)
