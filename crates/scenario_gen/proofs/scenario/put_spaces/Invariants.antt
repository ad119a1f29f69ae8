use Rattle.std.proofs.Common.{◌≡◌, ◌++◌}
use Rattle.std.specs.String.{string_bytes}
use Rattle.scenario_gen.specs.Generated.{for_each, space}
use Rattle.scenario_gen.proofs.scenario.put_spaces.Given as goal

abbrev pub invariant-loop-space : goal.invariant-loop-space
invariant-loop-space l = string_bytes l.out ≡ string_bytes l.fn.out ++ for_each space l.space
