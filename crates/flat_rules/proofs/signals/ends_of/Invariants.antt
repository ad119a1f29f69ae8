use Rattle.std.proofs.Common.{◌≡◌, map, take}
use Rattle.flat_state.specs.Signals.{has_ended}
use Rattle.flat_rules.proofs.signals.ends_of.Given as goal

abbrev pub invariant-loop-thread : goal.invariant-loop-thread
invariant-loop-thread g l = l.ended.items ≡ map (has_ended (g.T.Records.state l.tables).threads) (take l.thread-index l.to)
