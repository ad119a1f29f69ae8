use Rattle.std.proofs.Common.{◌≡◌, length}
use Rattle.text_fields.specs.Lines.{skip_spaces}
use Rattle.text_fields.proofs.fields.skip_spaces.Given as goal

abbrev pub invariant-loop-rest : goal.invariant-loop-rest
invariant-loop-rest l = skip_spaces l.rest ≡ skip_spaces l.fn.bytes

abbrev pub decreases-loop-rest : goal.decreases-loop-rest
decreases-loop-rest l = length l.rest
