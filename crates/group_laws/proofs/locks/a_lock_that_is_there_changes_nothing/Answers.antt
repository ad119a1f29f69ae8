use Rattle.group_laws.proofs.LockCounts.{lock_is_there}
use Rattle.group_laws.proofs.locks.a_lock_that_is_there_changes_nothing.Goals as goal

pub returns : goal.returns
returns c = λ rs r one there. lock_is_there rs r one there
