use Rattle.std.proofs.Common.{◌≡◌, length}
use Rattle.std.specs.List.{list_all}
use Rattle.text_fields.specs.Lines.{fields}
use Rattle.scenario_lines.specs.Forms.{is_word}
use Rattle.scenario_lines.proofs.forms.are_words.Given as goal

abbrev pub invariant-loop-field : goal.invariant-loop-field
invariant-loop-field l = list_all is_word (fields l.rest) ≡ list_all is_word (fields l.fn.line)

abbrev pub decreases-loop-field : goal.decreases-loop-field
decreases-loop-field l = length l.rest
