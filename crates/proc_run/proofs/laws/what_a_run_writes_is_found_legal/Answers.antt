use Rattle.proc_run.proofs.Accepted.{is_accepted, is_legal, is_settled}
use Rattle.proc_run.proofs.laws.what_a_run_writes_is_found_legal.Goals as goal

pub returns : goal.returns
returns c = record { legal = is_legal; settled = is_settled; accepted = is_accepted }
