use Rattle.journal_laws.proofs.Untouched.{untouched_stays}
use Rattle.journal_laws.proofs.calls.a_call_touches_few.Goals as goal

pub returns : goal.returns
returns c = untouched_stays
