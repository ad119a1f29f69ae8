use Rattle.group_laws.proofs.StayingOne.{one_left, one_all_left, one_locked, one_loaded}
use Rattle.group_laws.proofs.ones.each_stays_one.Goals as goal

pub returns : goal.returns
returns c = record {
  left = λ rs ident one. one_left rs ident one;
  all_left = λ rs idents one. one_all_left rs idents one;
  locked = λ rs ident on one. one_locked rs ident on one;
  loaded = λ rs ident name one no_ident no_name. one_loaded rs ident name one no_ident no_name;
}
