use Rattle.flat_events.proofs.CallParts.{rule_broken}
use Rattle.flat_events.proofs.asked.declaring.Goals as goal

pub returns-in-Err-clause-can_be_done : goal.returns-in-Err-clause-can_be_done
returns-in-Err-clause-can_be_done g c = rule_broken (g.T.Records.state c.args.tables.now) c.args.decl c.in-Err.rule c.in-Err.ensures
