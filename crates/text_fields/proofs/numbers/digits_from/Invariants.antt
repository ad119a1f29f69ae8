use Rattle.std.proofs.Common.{◌≡◌, ◌<◌, ◌^◌, length}
use Rattle.text_fields.specs.Numbers.{digits_from}
use Rattle.text_fields.proofs.numbers.digits_from.Given as goal

abbrev pub invariant-loop-rest : goal.invariant-loop-rest
invariant-loop-rest l = (l.number < 2 ^ 32) × (digits_from l.base l.number l.rest ≡ digits_from l.base 0 l.fn.bytes)

abbrev pub decreases-loop-rest : goal.decreases-loop-rest
decreases-loop-rest l = length l.rest
