use Rattle.shown_state.proofs.AlikeLemmas.{alike_itself, alike_kept, alike_onward, shown_alike}
use Rattle.shown_state.proofs.alike.what_shows_alike_is_shown_alike.Goals as goal

pub returns : goal.returns
returns c = record {
  shown = λ machine memory old new alike. shown_alike machine memory old new alike;
  kept = λ old new keeps names. alike_kept old new keeps names;
  itself = λ c. alike_itself c;
  onward = λ a b c first second. alike_onward a b c first second;
}
