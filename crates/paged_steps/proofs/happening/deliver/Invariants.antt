use Rattle.std.proofs.Common.{◌≡◌}
use Rattle.flat_machine.specs.flat_events.proofs.SendLaws.{IsSending}
use Rattle.paged_steps.proofs.happening.deliver.Given as goal

abbrev pub invariant-loop-receiver : goal.invariant-loop-receiver
invariant-loop-receiver l = record {
  state : l.tables ≡ record l.initial.tables { threads = l.tables.threads };
  sending : IsSending l.initial.tables.spaces l.offset l.initial.tables.threads l.tables.threads l.receivers l.receiver-index;
}
