use Rattle.shown_state.proofs.DeclareLemmas.{declaration_shown}
use Rattle.shown_state.proofs.changes.a_declaration_shows_as_the_last.Goals as goal

pub returns : goal.returns
returns c = λ machine memory old new owner content one declaring next absent has. declaration_shown machine memory old new one owner content declaring next absent has
