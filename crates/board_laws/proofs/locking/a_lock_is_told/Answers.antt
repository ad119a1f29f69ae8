use Rattle.board_laws.proofs.Locks.{locked_told, unlocked_told}
use Rattle.board_laws.proofs.locking.a_lock_is_told.Goals as goal

pub returns : goal.returns
returns c = record {
  locked = λ m memory caps old new pairs j ident cpu as_told whole few live unlocked may is. locked_told m memory caps old new pairs j ident cpu as_told whole few live unlocked may is;
  unlocked = λ m memory caps old new pairs j ident cpu as_told whole few live locked other is. unlocked_told m memory caps old new pairs j ident cpu as_told whole few live locked other is;
}
