use Rattle.board_laws.proofs.Growing.{formed_told, stands_told, state_is_flat}
use Rattle.board_laws.proofs.telling.what_is_told_is_so.Goals as goal

pub returns : goal.returns
returns c = record {
  state = λ m memory c sealed j as_told. state_is_flat m memory c sealed j as_told;
  formed = λ m memory c sealed j as_told. formed_told m memory c sealed j as_told;
  standing = λ m memory c sealed j ident as_told. stands_told m memory c sealed j as_told ident;
}
