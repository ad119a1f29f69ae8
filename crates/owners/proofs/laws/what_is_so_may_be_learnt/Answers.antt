use Rattle.owners.proofs.Learning.{noted_so, receiver_so, space_so}
use Rattle.owners.proofs.laws.what_is_so_may_be_learnt.Goals as goal

pub returns : goal.returns
returns c = record {
  noted = noted_so;
  space = space_so;
  receiver = receiver_so;
}
