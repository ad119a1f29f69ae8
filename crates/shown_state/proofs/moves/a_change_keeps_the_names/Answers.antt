use Rattle.shown_state.proofs.MoveLemmas.{names_changed, names_in_kernels, names_in_rows, names_in_spaces, names_in_threads}
use Rattle.shown_state.proofs.moves.a_change_keeps_the_names.Goals as goal

pub returns : goal.returns
returns c = record {
  loaded = λ old new ident content is. names_changed old new ident content is;
  kernels = λ old new is. names_in_kernels old new is;
  spaces = λ old new is. names_in_spaces old new is;
  threads = λ old new is. names_in_threads old new is;
  rows = λ old new is. names_in_rows old new is;
}
