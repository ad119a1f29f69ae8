use Rattle.left_laws.proofs.Falling.{event_falls, left_falls}
use Rattle.left_laws.proofs.boards.what_is_left_falls.Goals as goal

pub returns : goal.returns
returns c = record { grown = left_falls; event = event_falls }
