use Rattle.std.proofs.Common.{◌≡◌, ◌++◌}
use Rattle.std.specs.String.{string_bytes}
use Rattle.scenario_gen.specs.Generated.{for_each, rights}
use Rattle.scenario_gen.proofs.scenario.put_all_rights.Given as goal

abbrev pub invariant-loop-kernel : goal.invariant-loop-kernel
invariant-loop-kernel l = string_bytes l.out ≡ string_bytes l.fn.out ++ for_each rights l.kernel
