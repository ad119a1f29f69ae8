use Rattle.board_laws.proofs.Groups.{unloaded_told}
use Rattle.board_laws.proofs.leaving.a_group_that_leaves_is_told.Goals as goal

pub returns : goal.returns
returns c = λ m memory caps old new pairs j ident gone cpu as_told whole few live other is. unloaded_told m memory caps old new pairs j ident gone cpu as_told whole few live other is
