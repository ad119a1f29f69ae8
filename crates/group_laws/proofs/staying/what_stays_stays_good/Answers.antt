use Rattle.group_laws.proofs.StayingGood.{good_left, good_loaded, good_locked}
use Rattle.group_laws.proofs.staying.what_stays_stays_good.Goals as goal

pub returns : goal.returns
returns c = record {
  left = λ s rs r one good there last. good_left s rs r one good there last;
  loaded = λ s rs ident name good there fit parents. good_loaded s rs ident name good there fit parents;
  locked = λ s rs ident on good. good_locked s rs ident on good;
}
