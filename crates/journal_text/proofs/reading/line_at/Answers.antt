use Rattle.std.proofs.Common.{◌≡◌, ◌++◌, ap, ◌∙◌, List, ℕ}
use Rattle.journal_text.specs.Lines.{line}
use Rattle.journal_text.proofs.FieldLaws.{after_takes}
use Rattle.journal_text.proofs.TextLaws.{none_stands, other_stands}
use Rattle.journal_text.proofs.reading.line_at.Goals as goal

pub returns-in_default : goal.returns-in_default
returns-in_default c = none_stands c.args.bytes.now c.in_default.ensures

pub returns-in-Some-skip : goal.returns-in-Some-skip
returns-in-Some-skip c =
    let text : c.as_slice.result.now ≡ line c.in-Some.entry = c.as_slice.ensures.value ∙ c.in_ok-put_line.ensures.text ∙ ap (λ (t : List ℕ). t ++ line c.in-Some.entry) c.clear.ensures.items in
    (after_takes c.as_slice.result.now c.args.bytes.now c.in-Some-skip.rest.now c.in-Some-skip.ensures ∙ ap (λ (t : List ℕ). t ++ c.in-Some-skip.rest.now) text, c.in-Some.ensures)

pub returns-in-None : goal.returns-in-None
returns-in-None c =
    let text : c.as_slice.result.now ≡ line c.in-Some.entry = c.as_slice.ensures.value ∙ c.in_ok-put_line.ensures.text ∙ ap (λ (t : List ℕ). t ++ line c.in-Some.entry) c.clear.ensures.items in
    other_stands c.args.bytes.now c.as_slice.result.now c.in-Some.entry c.in-Some.ensures text c.in-None.ensures
