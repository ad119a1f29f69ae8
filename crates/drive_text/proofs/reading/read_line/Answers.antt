use Rattle.std.proofs.Common.{◌≡◌, ◌++◌, List, ℕ, ap, ◌∙◌}
use Rattle.drive_text.specs.Lines.{line_text}
use Rattle.journal_text.proofs.FieldLaws.{after_takes}
use Rattle.drive_text.proofs.LineLaws.{none_stands, same_line, other_stands, same_rest}
use Rattle.drive_text.proofs.reading.read_line.Goals as goal

pub returns-in_default-clause-found : goal.returns-in_default-clause-found
returns-in_default-clause-found c = none_stands c.args.bytes.now c.in_default.ensures

pub returns-in_default-clause-only : goal.returns-in_default-clause-only
returns-in_default-clause-only c = none_stands c.args.bytes.now c.in_default.ensures

pub returns-in-Some-skip-clause-found : goal.returns-in-Some-skip-clause-found
returns-in-Some-skip-clause-found c =
    let text : c.as_slice.result.now ≡ line_text c.in-Some.line = c.as_slice.ensures.value ∙ c.in_ok-put_line.ensures ∙ ap (λ (t : List ℕ). t ++ line_text c.in-Some.line) c.new-text.ensures.items in
    after_takes c.as_slice.result.now c.args.bytes.now c.in-Some-skip.rest.now c.in-Some-skip.ensures ∙ ap (λ (t : List ℕ). t ++ c.in-Some-skip.rest.now) text

pub returns-in-Some-skip-clause-only : goal.returns-in-Some-skip-clause-only
returns-in-Some-skip-clause-only c = λ line rest small is.
    let text : c.as_slice.result.now ≡ line_text c.in-Some.line = c.as_slice.ensures.value ∙ c.in_ok-put_line.ensures ∙ ap (λ (t : List ℕ). t ++ line_text c.in-Some.line) c.new-text.ensures.items in
    let parts : c.args.bytes.now ≡ line_text c.in-Some.line ++ c.in-Some-skip.rest.now = after_takes c.as_slice.result.now c.args.bytes.now c.in-Some-skip.rest.now c.in-Some-skip.ensures ∙ ap (λ (t : List ℕ). t ++ c.in-Some-skip.rest.now) text in
    (same_line c.args.bytes.now rest c.in-Some.line line c.in-Some.ensures small is, same_rest c.args.bytes.now c.in-Some-skip.rest.now rest c.in-Some.line line c.in-Some.ensures parts small is)

pub returns-clause-found : goal.returns-clause-found
returns-clause-found c =
    let text : c.as_slice.result.now ≡ line_text c.in-Some.line = c.as_slice.ensures.value ∙ c.in_ok-put_line.ensures ∙ ap (λ (t : List ℕ). t ++ line_text c.in-Some.line) c.new-text.ensures.items in
    other_stands c.args.bytes.now c.as_slice.result.now c.in-Some.line c.in-Some.ensures text c.in-None.ensures

pub returns-clause-only : goal.returns-clause-only
returns-clause-only c =
    let text : c.as_slice.result.now ≡ line_text c.in-Some.line = c.as_slice.ensures.value ∙ c.in_ok-put_line.ensures ∙ ap (λ (t : List ℕ). t ++ line_text c.in-Some.line) c.new-text.ensures.items in
    other_stands c.args.bytes.now c.as_slice.result.now c.in-Some.line c.in-Some.ensures text c.in-None.ensures
