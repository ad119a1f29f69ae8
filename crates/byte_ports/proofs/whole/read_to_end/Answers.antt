use Rattle.std.proofs.Common.{arith}
use Rattle.std.proofs.KnownBytes.{Consumes-trans}
use Rattle.std.proofs.lemmas.Grind.{common_steps}
use Rattle.byte_ports.proofs.whole.read_to_end.Goals as goal

-- the read that passed the limit took its bytes after those read before
pub returns-then-count-limit-clause-taken : goal.returns-then-count-limit-clause-taken
returns-then-count-limit-clause-taken g c =
    (_, Consumes-trans _ _ _ _ _ c.loop-count.invariant.read c.in-Ok.ensures.taken, grind (arith, common_steps))
