use Rattle.std.proofs.Common.{◌≡◌, length}
use Rattle.journal_text.specs.Reading.{number_from}
use Rattle.journal_text.proofs.fields.number.Given as goal

abbrev pub invariant-loop-rest : goal.invariant-loop-rest
invariant-loop-rest l = number_from l.number l.rest ≡ number_from 0 l.fn.bytes

abbrev pub decreases-loop-rest : goal.decreases-loop-rest
decreases-loop-rest l = length l.rest
