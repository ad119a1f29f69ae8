use Rattle.std.proofs.Common.{ℕ, take, eqb, sym, ap}
use Rattle.std.proofs.lemmas.List.{take_all}
use Rattle.text_fields.specs.Lines.{without_comment}
use Rattle.text_fields.proofs.Cutting.{place_of, no_place}
use Rattle.text_fields.proofs.lines.without_comment.Goals as goal

pub returns-in-Some : goal.returns-in-Some
unfolding without_comment
returns-in-Some c = ap (λ (n : ℕ). take n c.args.line.now) (sym (place_of (λ b. eqb b 35) c.args.line.now c.in-Some.at c.in-Some.ensures.is))

pub returns-in-None : goal.returns-in-None
unfolding without_comment
returns-in-None c = sym (take_all _ c.args.line.now (no_place (λ b. eqb b 35) c.args.line.now c.in-None.ensures.is))
