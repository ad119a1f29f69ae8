use Rattle.board_core.proofs.GoingLaws.{goes_further, goes_nowhere}
use Rattle.board_core.proofs.laws.what_goes_on_twice_goes_on.Goals as goal

pub returns-clause-nothing : goal.returns-clause-nothing
returns-clause-nothing c = goes_nowhere

pub returns-clause-twice : goal.returns-clause-twice
returns-clause-twice c = goes_further
