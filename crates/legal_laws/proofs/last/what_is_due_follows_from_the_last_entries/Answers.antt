use Rattle.legal_laws.proofs.LastLaws.{leaving, next}
use Rattle.legal_laws.proofs.last.what_is_due_follows_from_the_last_entries.Goals as goal

pub returns : goal.returns
returns c = record { due = next; leaving = leaving }
