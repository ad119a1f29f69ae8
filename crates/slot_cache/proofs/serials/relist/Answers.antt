use Rattle.std.proofs.Common.{inl, inr}
use Rattle.slot_cache.proofs.serials.relist.Goals as goal

pub returns-in-true-false-clause-relisted : goal.returns-in-true-false-clause-relisted
returns-in-true-false-clause-relisted c =
    let edit = c.insert.ensures.inserted in
    record {
      here = λ _. edit.here;
      gone = λ locked there. cc;
      kept = λ y there _. edit.kept y there;
      only = λ y there apart. elim (edit.only y there) [ inl same ↦ absurd (apart same) | inr was ↦ was ];
    }
