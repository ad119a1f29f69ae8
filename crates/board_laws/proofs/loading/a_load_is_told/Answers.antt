use Rattle.board_laws.proofs.Loads.{loaded_told}
use Rattle.board_laws.proofs.loading.a_load_is_told.Goals as goal

pub returns : goal.returns
returns c = λ m memory caps old new before after j name keep gone ident cpu as_told whole whole_new machine few is. loaded_told m memory caps old new before after j name keep gone ident cpu as_told whole whole_new machine few is
