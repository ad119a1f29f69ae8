use Rattle.std.proofs.Common.{◌≡◌, map, take}
use Rattle.flat_rules.proofs.signals.threads_of.Given as goal

abbrev pub invariant-loop-receiver : goal.invariant-loop-receiver
invariant-loop-receiver l = l.to.items ≡ map (λ receiver. receiver.0) (take l.receiver-index l.receivers)
