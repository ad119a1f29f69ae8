use Rattle.reach_laws.proofs.Loading.{loaded_row, none_told, receiver_told, row_got, row_keeps, unfit_row}
use Rattle.reach_laws.proofs.loads.a_row_is_got.Goals as goal

pub returns : goal.returns
returns c = record {
  none = λ b o owned. none_told b b o owned;
  receiver = λ b o owned. receiver_told b b o owned;
  unfit = λ b o owned. unfit_row b b o owned;
  loaded = λ b o owned. loaded_row b b o owned;
  got = row_got;
  kept = row_keeps;
}
