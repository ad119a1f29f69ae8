-- How the machine of a run with few frames goes on, from turn to turn.
use Rattle.std.proofs.Common.{ℕ, ◌+◌, List, Option, sym, ap₂, ◌∙◌, subst, arith}
use Rattle.flat_rules.specs.flat_state.specs.declared.records.Settled.{Settled}
use Rattle.flat_rules.specs.flat_state.specs.State.{FlatState}
use Rattle.flat_rules.specs.flat_state.specs.Settling.{settled_of}
use Rattle.paged_steps.specs.memory_laws.specs.Apart.{over}
use Rattle.run_journal.specs.declared.entries.Entry.{Entry}
use Rattle.paged_run.specs.declared.pager.Pager.{Pager}
use Rattle.paged_run.specs.Runs.{Extends}
use Rattle.paged_run.specs.Pagers.{Ends, Grew, IsOver}
use Rattle.paged_run.proofs.Journeys.{extends_none, extends_then}

-- one that didn't go on yet
pub grew_none : (p : Pager) (held : Option (List ℕ)) → Grew p held p held
grew_none p held = record {
  count = 0;
  steps = omega arith;
  goes = λ m means. (m, means, extends_none (over p.tables m) p.journal.entries, λ knows. knows);
}

pub grew_then : (p q r : Pager) (h k l : Option (List ℕ)) → Grew p h q k → Grew q k r l → Grew p h r l
grew_then p q r h k l first second = record {
  count = first.count + second.count;
  steps = omega (arith, first.steps, second.steps);
  goes = λ m means.
      let one = first.goes m means in
      let two = second.goes one.0 one.1 in
      (two.0, two.1, extends_then (over p.tables m) (over q.tables one.0) (over r.tables two.0) p.journal.entries q.journal.entries r.journal.entries first.count second.count one.2 two.2, λ knows. two.3 (one.3 knows));
}

-- it went on, and then nothing more happened
pub grew_over : (p q r : Pager) (h k l : Option (List ℕ)) (limit : ℕ) (settled : Settled) → Grew p h q k → IsOver q k r l limit settled → Ends p h r l limit settled
grew_over p q r h k l limit settled grew over_now = record {
  count = grew.count;
  steps = over_now.steps ∙ grew.steps;
  goes = λ m means knows.
      let one = grew.goes m means in
      let here = over_now.how one.0 one.1 (one.3 knows) in (
        one.0,
        here.0,
        subst (λ (s : FlatState). Extends (over p.tables m) p.journal.entries (over s one.0) r.journal.entries grew.count) (sym over_now.tables)
            (subst (λ (j : List Entry). Extends (over p.tables m) p.journal.entries (over q.tables one.0) j grew.count) (sym over_now.entries) one.2),
        here.1 ∙ ap₂ (λ (s : FlatState) (n : ℕ). settled_of (over s one.0) n limit) (sym over_now.tables) (sym over_now.steps),
      );
  ended = over_now.ended;
}
