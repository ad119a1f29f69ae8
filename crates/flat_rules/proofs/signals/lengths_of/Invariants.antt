use Rattle.std.proofs.Common.{◌≡◌, map, take}
use Rattle.flat_state.specs.Signals.{queued}
use Rattle.flat_rules.proofs.signals.lengths_of.Given as goal

abbrev pub invariant-loop-thread : goal.invariant-loop-thread
invariant-loop-thread g l = l.lengths.items ≡ map (queued (g.T.Records.state l.tables).threads) (take l.thread-index l.to)
