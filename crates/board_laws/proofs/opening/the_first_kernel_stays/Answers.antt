use Rattle.board_laws.proofs.First.{first_there}
use Rattle.board_laws.proofs.opening.the_first_kernel_stays.Goals as goal

pub returns : goal.returns
returns c = record {
  resident = λ j legal sealed. (first_there j legal sealed).1;
  loads = λ j legal sealed. (first_there j legal sealed).0;
}
