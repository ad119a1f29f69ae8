use Rattle.reach_laws.proofs.Loading.{space_is, space_is_told}
use Rattle.reach_laws.proofs.Showing.{space_there}
use Rattle.reach_laws.proofs.loads.a_thread_is_found.Goals as goal

pub returns : goal.returns
returns c = record {
  its = λ b new o owned space reached thread its is r a.
      let k = space_there b owned.sound its thread is in
      space_is b new o owned space reached thread r a its is k.0 k.1;
  told = λ b new o owned space reached thread its is r a.
      let k = space_there b owned.sound its thread is in
      space_is_told b new o owned space reached thread r a its is k.0 k.1;
}
