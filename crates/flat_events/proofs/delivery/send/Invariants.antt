use Rattle.std.proofs.Common.{◌≡◌}
use Rattle.flat_events.proofs.SendLaws.{IsSending}
use Rattle.flat_events.proofs.delivery.send.Given as goal

abbrev pub invariant-loop-receiver : goal.invariant-loop-receiver
invariant-loop-receiver g l = ((g.T.Records.state l.tables ≡ record (g.T.Records.state l.initial.tables) { threads = (g.T.Records.state l.tables).threads }) × IsSending (g.T.Records.state l.initial.tables).spaces l.offset (g.T.Records.state l.initial.tables).threads (g.T.Records.state l.tables).threads l.receivers l.receiver-index) × (g.T.Steps.rest l.tables ≡ g.T.Steps.rest l.initial.tables)
