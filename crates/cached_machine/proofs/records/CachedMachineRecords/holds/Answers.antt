use Rattle.std.proofs.Common.{subst}
use Rattle.flat_state.specs.WellFormed.{IsWellFormed}
use Rattle.cached_machine.specs.Cached.{state_of, Cached}
use Rattle.cached_machine.proofs.records.CachedMachineRecords.holds.Goals as goal

pub returns : goal.returns
returns c = subst (λ (m : Cached). IsWellFormed (state_of m)) c.self.view_is c.self.invariant.0.formed
