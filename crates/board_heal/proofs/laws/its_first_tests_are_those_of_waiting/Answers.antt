use Rattle.board_heal.proofs.HealLaws.{first_tests}
use Rattle.board_heal.proofs.laws.its_first_tests_are_those_of_waiting.Goals as goal

pub returns : goal.returns
returns c = first_tests
