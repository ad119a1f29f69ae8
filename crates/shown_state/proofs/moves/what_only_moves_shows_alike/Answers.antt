use Rattle.shown_state.proofs.MoveLemmas.{alike_leaving, alike_loading, alike_locking, alike_room, alike_spare}
use Rattle.shown_state.proofs.moves.what_only_moves_shows_alike.Goals as goal

pub returns : goal.returns
returns c = record {
  room = λ old new more. alike_room old new more;
  spare = λ old new is. alike_spare old new is;
  loading = λ old new name ident keeps moving. alike_loading old new name ident keeps moving;
  leaving = λ old new ident owner keeps moving. alike_leaving old new ident owner keeps moving;
  locking = λ old new ident on keeps is. alike_locking old new ident on keeps is;
}
