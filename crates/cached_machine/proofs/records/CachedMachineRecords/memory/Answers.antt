use Rattle.std.proofs.Common.{ap, ◌∙◌}
use Rattle.cached_machine.specs.Cached.{Cached}
use Rattle.cached_machine.proofs.ReadLaws.{shows_memory}
use Rattle.cached_machine.proofs.records.CachedMachineRecords.memory.Goals as goal

pub returns : goal.returns
returns c = ap (λ (m : Cached). m.memory) c.self.view_is ∙ shows_memory c.args.self.now
