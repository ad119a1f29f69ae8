-- What may leave, by its cause.
use Rattle.std.proofs.Common.{◌≡◌, ℕ, Bool, true, Option, Contains, ap, sym, ◌∙◌, subst}
use Rattle.std.specs.Bool.{MatchBool}
use Rattle.cache_ident.specs.declared.idents.Cause.{Cause}
use Rattle.cache_ident.specs.declared.idents.Cause.TheVariants.{Dependent, Displaced, Unloaded}
use Rattle.cache_ident.specs.declared.idents.Ident.{Ident}
use Rattle.cache_ident.specs.Residents.{Resident}
use Rattle.residents.specs.declared.list.Held.{Held}
use Rattle.residents.specs.Tables.{resident_of}
use Rattle.run_journal.specs.declared.entries.Entry.{Entry}
use Rattle.run_journal.specs.declared.entries.Entry.TheVariants.{WrittenBack}
use Rattle.run_journal.specs.Told.{Told, told_after}
use Rattle.run_journal.specs.Legal.{LeavesBy, MayLeave}
use Rattle.run_journal.specs.Points.{IsFollowed}
use Rattle.journal_groups.specs.journal_tables.specs.declared.tables.Tables.{Tables}
use Rattle.journal_groups.specs.journal_tables.specs.Tables.{AreOf, MayLeaveAs}
use Rattle.journal_facts.specs.declared.facts.Facts.{Facts}
use Rattle.journal_facts.specs.Facts.{AreFactsBehind, AreFactsOf}
use Rattle.journal_facts.proofs.Standing.{match_map}

-- it has that identifier
pub held_ident : (k : Told) (ident : Ident) (held : Held) → MayLeaveAs k ident held → held.ident ≡ ident
held_ident k ident held one = ap (λ (r : Resident). r.ident) (sym one.its) ∙ one.may.its

-- it is resident
pub held_there : (k : Told) (ident : Ident) (held : Held) → MayLeaveAs k ident held → Contains k.residents (resident_of held)
held_there k ident held one = subst (Contains k.residents) one.its one.may.there

-- what may leave as one of a group may leave for a cause exactly where it leaves by it
pub may_leave_by : (k : Told) (ident : Ident) (held : Held) (cause : Cause) → MayLeaveAs k ident held → LeavesBy cause k (resident_of held) → MayLeave k ident cause
may_leave_by k ident held cause one by = record {
  resident = one.may.resident;
  there = one.may.there;
  its = one.may.its;
  not_first = one.may.not_first;
  last = one.may.last;
  by_cause = subst (LeavesBy cause k) (sym one.its) by;
}

pub leaves_by : (tables : Tables) (k : Told) (ident : Ident) (held : Held) (cause : Cause) → AreOf tables k → MayLeaveAs k ident held → MayLeave k ident cause → LeavesBy cause k (resident_of held)
leaves_by tables k ident held cause are one may =
    subst (LeavesBy cause k) (are.whole.one.idents may.resident one.may.resident may.there one.may.there (may.its ∙ sym one.may.its) ∙ one.its) may.by_cause

pub as_dependent : (k : Told) (ident : Ident) (cause : Cause) → MayLeave k ident cause → MayLeave k ident Dependent
as_dependent k ident cause may = record { resident = may.resident; there = may.there; its = may.its; not_first = may.not_first; last = may.last; by_cause = tt }

-- ---- what is answered of it

-- it ends its group for a cause, and is answered whether it leaves by it
abbrev pub EndsGroup : Facts → Facts → Held → Cause → Bool → Type 0
EndsGroup old new held cause kept = (k : Told) → AreFactsOf old k → k.sealed ≡ true → MayLeaveAs k held.ident held
    → MatchBool kept (LeavesBy cause k (resident_of held) × AreFactsBehind new k held.ident) (LeavesBy cause k (resident_of held) → ⊥)

-- it leaves by its cause, or doesn't
abbrev pub Departs : Facts → Told → Held → ℕ → Cause → Bool → Type 0
Departs new k held cpu cause kept = MatchBool kept (LeavesBy cause k (resident_of held) × AreFactsOf new (told_after k (WrittenBack held.ident cause cpu))) (LeavesBy cause k (resident_of held) → ⊥)

-- its entry keeps its rule, or doesn't
abbrev pub IsTakenBack : Facts → Facts → Ident → Cause → ℕ → Option Entry → Bool → Type 0
IsTakenBack old new ident cause cpu next kept = (k : Told) → AreFactsOf old k → k.sealed ≡ true
    → MatchBool kept ((MayLeave k ident cause × IsFollowed cause ident cpu next) × AreFactsOf new (told_after k (WrittenBack ident cause cpu))) ((MayLeave k ident cause × IsFollowed cause ident cpu next) → ⊥)

pub departs_first : (new : Facts) (k : Told) (held : Held) (cpu : ℕ) (kept : Bool) → kept ≡ true → AreFactsOf new (told_after k (WrittenBack held.ident Dependent cpu)) → Departs new k held cpu Dependent kept
departs_first new k held cpu kept is are = subst (Departs new k held cpu Dependent) (sym is) (tt, are)

pub departs_displaced : (new : Facts) (k : Told) (held : Held) (cpu : ℕ) (kept : Bool) → MatchBool kept (LeavesBy Displaced k (resident_of held) × AreFactsBehind new k held.ident) (LeavesBy Displaced k (resident_of held) → ⊥)
    → Departs new k held cpu Displaced kept
departs_displaced new k held cpu kept is =
    match_map kept _ _ (LeavesBy Displaced k (resident_of held) × AreFactsOf new (told_after k (WrittenBack held.ident Displaced cpu))) (LeavesBy Displaced k (resident_of held) → ⊥) is (λ both. (both.0, both.1.displaced cpu)) (λ not. not)

pub departs_unloaded : (new : Facts) (k : Told) (held : Held) (cpu : ℕ) (kept : Bool) → MatchBool kept (LeavesBy Unloaded k (resident_of held) × AreFactsBehind new k held.ident) (LeavesBy Unloaded k (resident_of held) → ⊥)
    → Departs new k held cpu Unloaded kept
departs_unloaded new k held cpu kept is =
    match_map kept _ _ (LeavesBy Unloaded k (resident_of held) × AreFactsOf new (told_after k (WrittenBack held.ident Unloaded cpu))) (LeavesBy Unloaded k (resident_of held) → ⊥) is (λ both. (both.0, both.1.unloaded cpu)) (λ not. not)

module _ (old : Facts) (k : Told) (ident : Ident) (held : Held) (are : AreFactsOf old k) (one : MayLeaveAs k ident held) where
  -- by its own identifier
  pub its_own : MayLeaveAs k held.ident held
  its_own = subst (λ (i : Ident). MayLeaveAs k i held) (sym (held_ident k ident held one)) one

  pub taken_back : (new : Facts) (cause : Cause) (cpu : ℕ) (next : Option Entry) (kept : Bool) → IsFollowed cause ident cpu next → (by : Cause) → cause ≡ by → Departs new k held cpu by kept
      → MatchBool kept ((MayLeave k ident cause × IsFollowed cause ident cpu next) × AreFactsOf new (told_after k (WrittenBack ident cause cpu))) ((MayLeave k ident cause × IsFollowed cause ident cpu next) → ⊥)
  taken_back new cause cpu next kept followed by is departs =
      match_map kept _ _ ((MayLeave k ident cause × IsFollowed cause ident cpu next) × AreFactsOf new (told_after k (WrittenBack ident cause cpu))) ((MayLeave k ident cause × IsFollowed cause ident cpu next) → ⊥)
      (subst (λ (c : Cause). Departs new k held cpu c kept) (sym is) departs)
      (λ both. ((may_leave_by k ident held cause one both.0, followed), subst (λ (i : Ident). AreFactsOf new (told_after k (WrittenBack i cause cpu))) (held_ident k ident held one) both.1))
      (λ not may. not (leaves_by old.tables k ident held cause are.stand.tables one may.0))
