use Rattle.std.proofs.Common.{arith}
use Rattle.number_set.proofs.BitLemmas.{no_rest, rest_first}
use Rattle.number_set.proofs.bits.first_one.Goals as goal

pub returns-then-rest-eq0-clause-first : goal.returns-then-rest-eq0-clause-first
returns-then-rest-eq0-clause-first c = no_rest c.args.word c.args.from (omega (arith, c.ranges.word)) c.requires c.if-rest-eq0.true

pub returns-else-rest-eq0-clause-first : goal.returns-else-rest-eq0-clause-first
returns-else-rest-eq0-clause-first c = (rest_first c.args.word c.args.from (omega (arith, c.ranges.word)) c.requires (omega (arith, c.if-rest-eq0.false))).1
