use Rattle.std.proofs.Common.{refl, sym, ◌∙◌, w64, arith}
use Rattle.std.proofs.lemmas.Nat.Bits.{bit_at_clear_same, bit_at_set_other, bit_at_set_same}
use Rattle.number_set.proofs.BitLemmas.{is_one, others_cleared}
use Rattle.number_set.proofs.bits.with_bit.Goals as goal

pub returns-then-on-clause-there : goal.returns-then-on-clause-there
returns-then-on-clause-there c = is_one _ c.args.place 1 (bit_at_set_same w64 c.args.word c.args.place c.requires) ∙ sym c.if-on.true

pub returns-then-on-clause-others : goal.returns-then-on-clause-others
returns-then-on-clause-others c other apart = is_one _ other _ (bit_at_set_other w64 c.args.word c.args.place c.requires other apart) ∙ sym (is_one c.args.word other _ refl)

pub returns-else-on-clause-there : goal.returns-else-on-clause-there
returns-else-on-clause-there c = is_one _ c.args.place 0 (bit_at_clear_same w64 c.args.word c.args.place c.requires) ∙ sym c.if-on.false

pub returns-else-on-clause-others : goal.returns-else-on-clause-others
returns-else-on-clause-others c other apart = others_cleared c.args.word c.args.place other (omega (arith, c.ranges.word)) c.requires apart
