use Rattle.memory_laws.proofs.Apart.{rule_apart, declared_apart, completion_apart}
use Rattle.memory_laws.proofs.what_leaves_memory_apart.Goals as goal

pub returns-clause-rules : goal.returns-clause-rules
returns-clause-rules c = rule_apart

pub returns-clause-declarations : goal.returns-clause-declarations
returns-clause-declarations c = declared_apart

pub returns-clause-calls : goal.returns-clause-calls
returns-clause-calls c = completion_apart
