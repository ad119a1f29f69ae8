-- Steps and completed calls in the journal.
use Rattle.std.proofs.Common.{◌≡◌, ℕ, ◌<◌, true, false, List, [], ◌∷◌, ◌++◌, length, Some, refl, ap, sym, subst}
use Rattle.std.specs.Prelude.{IsSome}
use Rattle.cache_ident.specs.declared.idents.Ident.{Ident}
use Rattle.cache_ident.specs.declared.names.Caps.{Caps}
use Rattle.cache_ident.specs.declared.names.Name.TheVariants.{Thread}
use Rattle.cache_ident.specs.declared.names.ThreadNo.{ThreadNo}
use Rattle.cache_ident.specs.declared.rolls.Issued.{Issued}
use Rattle.cache_ident.specs.Residents.{Resident, IsNameResident}
use Rattle.cache_ident.specs.Rolls.{standing_in}
use Rattle.quantum.specs.depend_lists.specs.declared.nodes.Node.{Node}
use Rattle.quantum.specs.flat_state.specs.declared.events.Event.TheVariants.{Complete}
use Rattle.quantum.specs.flat_state.specs.declared.events.Machine.{Machine}
use Rattle.quantum.specs.flat_state.specs.Events.{after_event, applied}
use Rattle.quantum.specs.flat_state.specs.State.{FlatState}
use Rattle.desc_tables.specs.run_journal.specs.declared.entries.Entry.{Entry}
use Rattle.desc_tables.specs.run_journal.specs.declared.entries.Entry.TheVariants.{Completed, Ended, Ran}
use Rattle.desc_tables.specs.run_journal.specs.Legal.{after_steps, AreGood, MayStep}
use Rattle.desc_tables.specs.desc_stores.specs.Contents.{residents_of, Contents}
use Rattle.desc_tables.specs.shown_state.specs.Shown.{shown}
use Rattle.desc_tables.specs.desc_groups.specs.Whole.{AreWhole}
use Rattle.board_laws.specs.Moves.{KeepsLoaded}
use Rattle.board_laws.specs.Telling.{AreAsTold}
use Rattle.board_laws.proofs.Growing.{entry_told, same_told}
use Rattle.board_laws.proofs.Shown.{good_shown}

module _ (m : Machine) (before after : List ℕ) (old new : Contents) (j : List Entry) (thread : ThreadNo) (cpu : ℕ)
    (as_told : AreAsTold m before old true j) (few : cpu < 8) (there : IsNameResident (residents_of old) (Thread thread)) (keeps : KeepsLoaded old new) where
  stands : (x : Ident) → standing_in old.issued x ≡ standing_in new.issued x
  stands x = ap (λ (issued : List Issued). standing_in issued x) (sym keeps.issued)

  pub ran_told : (steps : ℕ) → 0 < steps → ((n : ℕ) → n < steps → MayStep (after_steps (shown (Some m) before old) thread n) (residents_of old) thread false)
      → shown (Some m) after new ≡ after_steps (shown (Some m) before old) thread steps → AreAsTold m after new true (j ++ Ran thread steps cpu ∷ [])
  ran_told steps some each shows =
      entry_told m before after old new true true j as_told (Ran thread steps cpu) refl few (record { some = some; resident = there; each = each })
      (same_told (after_steps (shown (Some m) before old) thread steps) (shown (Some m) after new) true true (length old.issued) (length new.issued) (residents_of old) (residents_of new) (sym shows) refl (ap length (sym keeps.issued)) (sym keeps.residents))
      stands

  pub ended_told : MayStep (shown (Some m) before old) (residents_of old) thread true → shown (Some m) after new ≡ after_steps (shown (Some m) before old) thread 1 → AreAsTold m after new true (j ++ Ended thread cpu ∷ [])
  ended_told step shows =
      entry_told m before after old new true true j as_told (Ended thread cpu) refl few (record { resident = there; step = step })
      (same_told (after_steps (shown (Some m) before old) thread 1) (shown (Some m) after new) true true (length old.issued) (length new.issued) (residents_of old) (residents_of new) (sym shows) refl (ap length (sym keeps.issued)) (sym keeps.residents))
      stands

  pub completed_told : (caps : Caps) (pairs : List (Ident × Node)) → AreWhole caps new pairs → IsSome (after_event (shown (Some m) before old) (Complete thread)) → shown (Some m) after new ≡ applied (shown (Some m) before old) (Complete thread) → AreAsTold m after new true (j ++ Completed thread cpu ∷ [])
  completed_told caps pairs whole fits shows =
      let then : applied (shown (Some m) before old) (Complete thread) ≡ shown (Some m) after new = sym shows in
      let good : AreGood (shown (Some m) after new) (residents_of old) = subst (λ (rs : List Resident). AreGood (shown (Some m) after new) rs) keeps.residents (good_shown m after new whole.one (residents_of new) whole.good) in
      entry_told m before after old new true true j as_told (Completed thread cpu) refl few
      (record {
        resident = there;
        fits = fits;
        good = subst (λ (s : FlatState). AreGood s (residents_of old)) (sym then) good;
      })
      (same_told (applied (shown (Some m) before old) (Complete thread)) (shown (Some m) after new) true true (length old.issued) (length new.issued) (residents_of old) (residents_of new) then refl (ap length (sym keeps.issued)) (sym keeps.residents))
      stands
