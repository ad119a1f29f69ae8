use Rattle.std.proofs.Common.{arith}
use Rattle.cache_ident.proofs.RollLemmas.{never_above, numbered-append}
use Rattle.cache_ident.proofs.rolls.Roll.issue.Goals as goal

pub invariant_of-self : goal.invariant_of-self
invariant_of-self c = grind (arith, c.push_reserved.ensures.items, c.len.ensures, numbered-append)

pub returns-clause-fresh : goal.returns-clause-fresh
returns-clause-fresh c = rw (← c.self.view_is) (never_above 0 _ _ c.self.invariant (omega arith))
