use Rattle.group_laws.proofs.StayingOne.{apart_left, apart_all_left, apart_locked, apart_loaded}
use Rattle.group_laws.proofs.ones.idents_stay_apart.Goals as goal

pub returns : goal.returns
returns c = record {
  left = λ rs ident apart. apart_left rs ident apart;
  all_left = λ rs idents apart. apart_all_left rs idents apart;
  locked = λ rs ident on apart. apart_locked rs ident on apart;
  loaded = λ rs ident name apart no_ident. apart_loaded rs ident name apart no_ident;
}
