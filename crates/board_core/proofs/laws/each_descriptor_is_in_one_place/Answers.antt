use Rattle.board_core.proofs.OnePlaceLaws.{in_one_place}
use Rattle.board_core.proofs.laws.each_descriptor_is_in_one_place.Goals as goal

pub returns : goal.returns
returns c = in_one_place
