use Rattle.group_laws.proofs.StayingGood.{last_loaded, last_left, last_locked}
use Rattle.group_laws.proofs.staying.nothing_depends_on_what_is_new.Goals as goal

pub returns : goal.returns
returns c = record {
  loaded = λ s rs ident name good new parents. last_loaded s rs ident name good new parents;
  left = λ s rs ident name last. last_left s rs ident name last;
  locked = λ s rs ident on name last. last_locked s rs ident on name last;
}
