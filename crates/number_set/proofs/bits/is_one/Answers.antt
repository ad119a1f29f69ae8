use Rattle.std.proofs.Common.{ap, nat_eq, refl, sym, ◌∙◌}
use Rattle.std.proofs.lemmas.Nat.Bits.{shr_and_one}
use Rattle.number_set.proofs.BitLemmas.{is_one}
use Rattle.number_set.proofs.bits.is_one.Goals as goal

pub returns : goal.returns
returns c = ap (λ bit. nat_eq bit 1) (shr_and_one c.args.word c.args.place) ∙ sym (is_one c.args.word c.args.place _ refl)
