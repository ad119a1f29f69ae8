-- What is answered of an entry.
use Rattle.std.proofs.Common.{◌≡◌, ℕ, Bool, true, false, Option, sym, subst}
use Rattle.std.specs.Bool.{MatchBool}
use Rattle.run_journal.specs.declared.entries.Entry.{Entry}
use Rattle.run_journal.specs.Told.{Told, told_after}
use Rattle.run_journal.specs.Legal.{IsInPlace}
use Rattle.journal_facts.specs.declared.facts.Facts.{Facts}
use Rattle.journal_facts.specs.Facts.{AreFactsOf}
use Rattle.journal_facts.specs.Rules.{KeepsOwn}

-- it keeps its rule, or doesn't
abbrev pub IsTaken : Facts → Facts → Option Entry → Bool → Entry → Type 0
IsTaken old new next kept e = (k : Told) → AreFactsOf old k → IsInPlace k e → MatchBool kept (KeepsOwn k next e × AreFactsOf new (told_after k e)) (KeepsOwn k next e → ⊥)

-- nothing is asked of it
pub kept_always : (kept : Bool) (P : Type 0) → kept ≡ true → P → MatchBool kept (Unit {0} × P) (Unit {0} → ⊥)
kept_always kept P is p = subst (λ (b : Bool). MatchBool b (Unit {0} × P) (Unit {0} → ⊥)) (sym is) (tt, p)

-- whichever processor made it
pub by_one : (kept : Bool) (May : Type 0) (After : ℕ → Type 0) (cpu : ℕ) → MatchBool kept (May × ((by : ℕ) → After by)) (May → ⊥) → MatchBool kept (May × After cpu) (May → ⊥)
by_one true May After cpu is = (is.0, is.1 cpu)
by_one false May After cpu is = is
