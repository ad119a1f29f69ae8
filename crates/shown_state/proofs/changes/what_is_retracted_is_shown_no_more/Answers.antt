use Rattle.shown_state.proofs.ChangeLemmas.{retract_nothing}
use Rattle.shown_state.proofs.DeclareLemmas.{retraction_shown}
use Rattle.shown_state.proofs.changes.what_is_retracted_is_shown_no_more.Goals as goal

pub returns : goal.returns
returns c = record {
  retracted = λ machine memory old new space vpn gone. retraction_shown machine memory old new space vpn gone;
  absent = λ machine memory c space vpn absent. retract_nothing machine memory c space vpn absent;
}
