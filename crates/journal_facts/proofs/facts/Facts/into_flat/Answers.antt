use Rattle.std.proofs.Common.{sym}
use Rattle.journal_facts.proofs.facts.Facts.into_flat.Goals as goal

pub returns : goal.returns
returns c = λ k are. sym are.stand.state
