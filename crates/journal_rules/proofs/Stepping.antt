-- Steps one after another.
use Rattle.std.proofs.Common.{◌≡◌, ℕ, zero, suc, ◌+◌, false, List, refl, ap, ◌∙◌, subst, inl, inr, arith}
use Rattle.std.proofs.lemmas.Bool.{cases_lt}
use Rattle.cache_ident.specs.declared.names.ThreadNo.{ThreadNo}
use Rattle.cache_ident.specs.Residents.{Resident}
use Rattle.flat_state.specs.declared.events.Event.TheVariants.{Step}
use Rattle.flat_state.specs.State.{FlatState}
use Rattle.flat_state.specs.Events.{applied}
use Rattle.run_journal.specs.Legal.{MayStep, after_steps}
use Rattle.journal_rules.specs.Running.{MayStepOn}

step_last : (s : FlatState) (thread : ThreadNo) (n : ℕ) → after_steps s thread (suc n) ≡ applied (after_steps s thread n) (Step thread)
step_last s thread zero = refl
step_last s thread (suc n) = step_last (applied s (Step thread)) thread n

pub one_more : (s : FlatState) (thread : ThreadNo) (n : ℕ) → after_steps s thread (n + 1) ≡ applied (after_steps s thread n) (Step thread)
one_more s thread n =
    let whole : n + 1 ≡ suc n = omega arith in
    ap (after_steps s thread) whole ∙ step_last s thread n

pub on_none : (s : FlatState) (rs : List Resident) (thread : ThreadNo) → MayStepOn s rs thread 0
on_none s rs thread n low = absurd (omega arith)

pub on_more : (s : FlatState) (rs : List Resident) (thread : ThreadNo) (n : ℕ) → MayStepOn s rs thread n → MayStep (after_steps s thread n) rs thread false → MayStepOn s rs thread (n + 1)
on_more s rs thread n before here m low = elim (cases_lt m n) [
  | inl below ↦ before m below
  | inr above ↦ (let last : n ≡ m = omega (arith, low) in subst (λ (k : ℕ). MayStep (after_steps s thread k) rs thread false) last here)
]
