use Rattle.reach_laws.proofs.Loading.{thread_got}
use Rattle.reach_laws.proofs.loads.a_thread_is_got.Goals as goal

pub returns : goal.returns
returns c b new o owned space reached thread is r a = thread_got b new o owned space reached thread r a is
