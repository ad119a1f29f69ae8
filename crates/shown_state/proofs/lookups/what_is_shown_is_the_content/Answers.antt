use Rattle.shown_state.proofs.LookupLemmas.{all_found, all_listed, one_row_a_page, signals_listed, signals_named}
use Rattle.shown_state.proofs.lookups.what_is_shown_is_the_content.Goals as goal

pub returns : goal.returns
returns c = record {
  found = λ machine memory c one. all_found machine memory c one;
  listed = λ machine memory c one. all_listed machine memory c one;
  one_row = λ machine memory c one. one_row_a_page machine memory c one;
  signal_names = λ machine memory c one frame. signals_named machine memory c one frame;
  signal_rows = λ machine memory c frame. signals_listed machine memory c frame;
}
