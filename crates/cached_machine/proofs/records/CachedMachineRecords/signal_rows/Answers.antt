use Rattle.cached_machine.specs.contracts.machine.CachedMachine.{the_view}
use Rattle.cached_machine.proofs.ReadLaws.{four_signals}
use Rattle.cached_machine.proofs.records.CachedMachineRecords.signal_rows.Goals as goal

pub signal_rows-requires : goal.signal_rows-requires
signal_rows-requires c = four_signals (the_view c.self.inside) c.self.invariant.0.formed c.args.frame
