use Rattle.cache_board.proofs.PastLaws.{shows_flat, shows_residents}
use Rattle.cache_board.proofs.pasts.a_board_shows_its_journal.Goals as goal

pub returns : goal.returns
returns c = record { state = shows_flat; residents = shows_residents }
