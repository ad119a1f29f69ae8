use Rattle.std.proofs.Common.{arith}
use Rattle.std.proofs.lemmas.Bool.Decides.{nat_tests}
use Rattle.cache_ident.proofs.RollLemmas.{never_above, standing_at}
use Rattle.cache_ident.proofs.rolls.Roll.find.Goals as goal

pub returns-in-None-clause-standing : goal.returns-in-None-clause-standing
returns-in-None-clause-standing c = grind (arith, nat_tests, c.self.view_is, c.self.invariant, c.in-Some.ensures, standing_at 0 c.args.ident.serial c.self.inside.issued.items c.in-Some.entry.now c.args.ident c.self.invariant)

pub returns-in-Some-left-clause-standing : goal.returns-in-Some-left-clause-standing
returns-in-Some-left-clause-standing c = grind (arith, nat_tests, c.self.view_is, c.self.invariant, c.in-Some.ensures, standing_at 0 c.args.ident.serial c.self.inside.issued.items c.in-Some.entry.now c.args.ident c.self.invariant)

pub returns-in_default-clause-standing : goal.returns-in_default-clause-standing
returns-in_default-clause-standing c = grind (arith, nat_tests, c.self.view_is, c.self.invariant, c.in-Some.ensures, standing_at 0 c.args.ident.serial c.self.inside.issued.items c.in-Some.entry.now c.args.ident c.self.invariant)

pub returns-in_default-2-clause-standing : goal.returns-in_default-2-clause-standing
returns-in_default-2-clause-standing c = grind (arith, nat_tests, c.self.view_is, c.get.ensures, never_above 0 c.self.inside.issued.items c.args.ident c.self.invariant)
