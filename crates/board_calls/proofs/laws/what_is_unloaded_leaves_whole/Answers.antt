use Rattle.std.proofs.Common.{ap}
use Rattle.board_checks.specs.desc_groups.specs.Moves.{idents_of}
use Rattle.board_core.specs.board_laws.specs.Moves.{written_back}
use Rattle.board_calls.proofs.laws.what_is_unloaded_leaves_whole.Goals as goal

pub returns : goal.returns
returns c = λ cpu ident old new is. record {
  root = is.root;
  there = is.there;
  its = is.its;
  idents = idents_of new.machine.held.gone;
  group = is.group;
  told = ap (written_back cpu) is.causes;
  rest = is.residents;
}
