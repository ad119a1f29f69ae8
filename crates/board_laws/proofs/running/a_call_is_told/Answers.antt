use Rattle.board_laws.proofs.Runs.{completed_told}
use Rattle.board_laws.proofs.running.a_call_is_told.Goals as goal

pub returns : goal.returns
returns c = λ m before after caps old new pairs j thread cpu as_told whole few there fits shows keeps. completed_told m before after old new j thread cpu as_told few there keeps caps pairs whole fits shows
