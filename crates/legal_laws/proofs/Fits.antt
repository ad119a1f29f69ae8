-- Each event of a legal journal fits where it stands.
use Rattle.std.proofs.Common.{◌≡◌, ℕ, zero, suc, ◌<◌, true, false, List, [], ◌∷◌, ◌++◌, replicate, take, Option, Some, slice_get, ap, subst, arith}
use Rattle.std.specs.Prelude.{is_some, IsSome}
use Rattle.std.proofs.lemmas.Option.{same_Some}
use Rattle.cache_ident.specs.declared.names.ThreadNo.{ThreadNo}
use Rattle.cache_ident.specs.Residents.{Resident}
use Rattle.group_laws.specs.flat_state.specs.declared.events.Event.{Event}
use Rattle.group_laws.specs.flat_state.specs.declared.events.Event.TheVariants.{Step}
use Rattle.group_laws.specs.flat_state.specs.State.{FlatState, nothing_declared}
use Rattle.group_laws.specs.flat_state.specs.Events.{declared_unless, after_event, after_events, applied}
use Rattle.group_laws.specs.run_journal.specs.declared.entries.Entry.{Entry}
use Rattle.group_laws.specs.run_journal.specs.declared.entries.Entry.TheVariants.{Declared, Sealed, Loaded, WrittenBack, Locked, Unlocked, Ran, Ended, Completed}
use Rattle.group_laws.specs.run_journal.specs.Entries.{events_of, erase}
use Rattle.group_laws.specs.run_journal.specs.Legal.{after_steps, AreLegal, IsLegal, MayCome, MayStep}
use Rattle.group_laws.specs.run_journal.specs.Told.{Told, nothing_told, told_after}
use Rattle.group_laws.specs.run_journal.proofs.Growth.{state_after}
use Rattle.group_laws.specs.run_journal.proofs.Stepping.{step_fits}
use Rattle.legal_laws.specs.Fitting.{EachFits}

-- ---- one after another

-- each event fits what those before it make of the state
abbrev AllFit : FlatState → List Event → Type 0
AllFit s [] = Unit {0}
AllFit s (e ∷ es) = IsSome (after_event s e) × AllFit (applied s e) es

fit-append : (s : FlatState) (xs ys : List Event) → AllFit s xs → AllFit (after_events s xs) ys → AllFit s (xs ++ ys)
fit-append s [] ys first second = second
fit-append s (e ∷ xs) ys first second = (first.0, fit-append (applied s e) xs ys first.1 second)

fit_at : (s : FlatState) (es : List Event) (at : ℕ) (e : Event) → AllFit s es → slice_get es at ≡ Some e → IsSome (after_event (after_events s (take at es)) e)
fit_at s [] at e fit there = absurd (cc)
fit_at s (x ∷ es) zero e fit there = subst (λ (y : Event). IsSome (after_event s y)) (same_Some x e there) fit.0
fit_at s (x ∷ es) (suc at) e fit there = fit_at (applied s x) es at e fit.1 there

-- ---- one event

steps_fit : (n : ℕ) (s : FlatState) (rs : List Resident) (thread : ThreadNo) → ((k : ℕ) → k < n → MayStep (after_steps s thread k) rs thread false) → AllFit s (replicate n (Step thread))
steps_fit zero s rs thread each = tt
steps_fit (suc n) s rs thread each =
    (step_fits s rs thread false (each 0 (omega arith)), steps_fit n (applied s (Step thread)) rs thread (λ k lt. each (suc k) (omega arith)))

-- ---- one entry

entry_fits : (k : Told) (e : Entry) → MayCome k e → AllFit k.state (events_of e)
entry_fits k (Declared d) may = (ap (λ (o : Option ℕ). is_some (declared_unless o k.state d)) may.place.1, tt)
entry_fits k Sealed may = tt
entry_fits k (Loaded ident name cpu) may = tt
entry_fits k (WrittenBack ident cause cpu) may = tt
entry_fits k (Locked ident cpu) may = tt
entry_fits k (Unlocked ident cpu) may = tt
entry_fits k (Ran thread steps cpu) may = steps_fit steps k.state k.residents thread may.happens.each
entry_fits k (Ended thread cpu) may = (step_fits k.state k.residents thread true may.happens.step, tt)
entry_fits k (Completed thread cpu) may = (may.happens.fits, tt)

entries_fit : (k : Told) (es : List Entry) → AreLegal k es → AllFit k.state (erase es)
entries_fit k [] legal = tt
entries_fit k (e ∷ es) legal =
    fit-append k.state (events_of e) (erase es) (entry_fits k e legal.0)
    (subst (λ (s : FlatState). AllFit s (erase es)) (state_after k e) (entries_fit (told_after k e) es legal.1))

pub each_fits : (j : List Entry) → IsLegal j → EachFits (erase j)
each_fits j legal at e there = fit_at nothing_declared (erase j) at e (entries_fit nothing_told j legal.each) there
