use Rattle.board_laws.proofs.Growing.{still_told}
use Rattle.board_laws.proofs.telling.what_shows_nothing_new_is_told.Goals as goal

pub returns : goal.returns
returns c = λ m memory old new sealed j as_told shows keeps. still_told m memory old new sealed j as_told shows keeps
