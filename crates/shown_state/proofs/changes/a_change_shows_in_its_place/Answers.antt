use Rattle.shown_state.proofs.ChangeLemmas.{change_shown, mark_nothing, mark_shown}
use Rattle.shown_state.proofs.changes.a_change_shows_in_its_place.Goals as goal

pub returns : goal.returns
returns c = record {
  shown = λ machine memory old new content one change. change_shown machine memory old new one change.names content change.contents change.was;
  marked = λ machine memory old new space vpn written mark. mark_shown machine memory old new space vpn written mark;
  unmarked = λ machine memory c space vpn written absent. mark_nothing machine memory c space vpn absent written;
}
