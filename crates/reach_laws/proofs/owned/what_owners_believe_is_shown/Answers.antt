use Rattle.reach_laws.proofs.Owning.{first_live, receiver_known, space_known, spaces_known}
use Rattle.reach_laws.proofs.Showing.{kernel_there, space_there}
use Rattle.reach_laws.proofs.owned.what_owners_believe_is_shown.Goals as goal

pub returns : goal.returns
returns c = record {
  first = first_live;
  spaces = spaces_known;
  threads = space_known;
  receivers = receiver_known;
  kernel = λ b sound space. kernel_there b sound space.0;
  space = space_there;
}
