use Rattle.board_core.proofs.GoingLaws.{grew_more, grew_nothing}
use Rattle.board_core.proofs.laws.what_grows_twice_grew.Goals as goal

pub returns-clause-nothing : goal.returns-clause-nothing
returns-clause-nothing c = grew_nothing

pub returns-clause-twice : goal.returns-clause-twice
returns-clause-twice c = grew_more
