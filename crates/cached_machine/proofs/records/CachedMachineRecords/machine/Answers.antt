use Rattle.std.proofs.Common.{Some, ap, ◌∙◌}
use Rattle.cached_machine.specs.Cached.{Cached}
use Rattle.cached_machine.proofs.ReadLaws.{shows_machine}
use Rattle.cached_machine.proofs.records.CachedMachineRecords.machine.Goals as goal

pub returns : goal.returns
returns c = ap (λ (m : Cached). Some m.machine) c.self.view_is ∙ shows_machine c.args.self.now
