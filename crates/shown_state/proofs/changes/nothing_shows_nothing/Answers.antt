use Rattle.shown_state.proofs.DeclareLemmas.{nothing_shown}
use Rattle.shown_state.proofs.changes.nothing_shows_nothing.Goals as goal

pub returns : goal.returns
returns c = λ machine memory caps c none. nothing_shown machine memory caps c none
