use Rattle.group_laws.proofs.LockCounts.{locks_left, locks_loaded, locks_locked, locks_unlocked, locks_same}
use Rattle.group_laws.proofs.locks.locks_are_counted.Goals as goal

pub returns : goal.returns
returns c = record {
  left = λ s rs r kernel kind apart there. locks_left s rs kernel kind r apart there;
  loaded = λ s rs ident name kernel kind. locks_loaded s rs kernel kind ident name;
  locked = λ s rs r kernel kind apart there is. locks_locked s rs kernel kind r apart there is;
  unlocked = λ s rs r kernel kind apart there is. locks_unlocked s rs kernel kind r apart there is;
  same = λ s t rs kernel kind same. locks_same s t rs kernel kind same;
}
