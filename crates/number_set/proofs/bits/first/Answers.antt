use Rattle.std.proofs.Common.{◌+◌, ◌*◌, ◌/◌, refl, arith}
use Rattle.number_set.specs.Bits.{bit_in}
use Rattle.number_set.proofs.WordLemmas.{first_here, first_longer, passed_all, passed_more}
use Rattle.number_set.proofs.bits.first.Goals as goal

pub returns-in-Some : goal.returns-in-Some
returns-in-Some c =
    let words = c.args.words.now in
    let from = c.loop-from.from in
    let at = c.in-Some.at in
    let i = c.loop-from.invariant in
    first_longer (bit_in words) c.args.from from (64 * (from / 64) + at) i.reached i.passed (first_here words from at _ refl c.in-Some.ensures.within c.in-Some.ensures.first)

pub loop-from-preserved : goal.loop-from-preserved
loop-from-preserved c = record {
  reached = omega (arith, c.loop-from.invariant.reached);
  passed = passed_more c.args.words.now c.args.from c.loop-from.from _ refl c.in-None.ensures.first c.loop-from.invariant.passed;
}

pub returns : goal.returns
returns c = passed_all c.args.words.now c.args.from c.loop-from.from c.loop-from-test.false c.loop-from.invariant.passed
