-- Steps that were taken ahead, in the journal.
use Rattle.std.proofs.Common.{◌≡◌, ℕ, ◌<◌, false, true, List, [], ◌∷◌, ◌++◌, Contains, Option, Some, None, slice_get, sym, ◌∙◌, subst}
use Rattle.cache_ident.specs.declared.names.Name.{Name}
use Rattle.cache_ident.specs.declared.names.Name.TheVariants.{Mapping, Thread}
use Rattle.cache_ident.specs.declared.names.SpaceNo.{SpaceNo}
use Rattle.cache_ident.specs.declared.names.ThreadNo.{ThreadNo}
use Rattle.cache_ident.specs.Residents.{Resident, IsNameResident}
use Rattle.quantum.specs.flat_state.specs.declared.events.Machine.{Machine}
use Rattle.quantum.specs.flat_state.specs.declared.records.FlatThread.{FlatThread}
use Rattle.quantum.specs.flat_state.specs.State.{FlatState}
use Rattle.quantum.specs.page_views.specs.Views.{View}
use Rattle.quantum.specs.Ahead.{Ahead}
use Rattle.quantum.specs.LocalRun.{committed, touched_views, CouldRun, GoesThrough, IsLocalRun, IsViewed}
use Rattle.desc_tables.specs.run_journal.specs.declared.entries.Entry.{Entry}
use Rattle.desc_tables.specs.run_journal.specs.declared.entries.Entry.TheVariants.{Ran}
use Rattle.desc_tables.specs.run_journal.specs.Legal.{after_steps, IsRowResident, MayStep}
use Rattle.desc_tables.specs.desc_stores.specs.Contents.{residents_of, Contents}
use Rattle.desc_tables.specs.shown_state.specs.Shown.{shown}
use Rattle.board_laws.specs.Moves.{KeepsLoaded}
use Rattle.board_laws.specs.Telling.{AreAsTold}
use Rattle.board_laws.proofs.Growing.{formed_told}
use Rattle.board_laws.proofs.Runs.{ran_told}

-- a row that a touched view is of is loaded, where all of them are
viewed_row : (rs : List Resident) (space : SpaceNo) (views : List View) → ((view : View) → Contains (touched_views views) view → IsNameResident rs (Mapping space view.vpn)) → (row : Option Name) → IsViewed space views row → IsRowResident rs row
viewed_row rs space views loaded None viewed = tt
viewed_row rs space views loaded (Some name) viewed = subst (λ (n : Name). IsNameResident rs n) (sym viewed.2) (loaded viewed.0 viewed.1)

-- so a step through them may be told
step_through : (s : FlatState) (rs : List Resident) (thread : ThreadNo) (space : SpaceNo) (views : List View) → ((view : View) → Contains (touched_views views) view → IsNameResident rs (Mapping space view.vpn)) → GoesThrough s thread.0 space views → MayStep s rs thread false
step_through s rs thread space views loaded goes = record {
  next = goes.next;
  its = goes.its;
  runs = goes.runs;
  faulty = goes.faults;
  fetch = viewed_row rs space views loaded goes.next.fetch_row goes.fetch;
  «data» = λ quiet. viewed_row rs space views loaded goes.next.data_row goes.access;
}

pub quantum_told : (m : Machine) (before after : List ℕ) (old new : Contents) (j : List Entry) (thread : ThreadNo) (found : FlatThread) (ahead : Ahead) (cpu : ℕ)
    → AreAsTold m before old true j → cpu < 8 → 0 < ahead.steps → IsNameResident (residents_of old) (Thread thread)
    → IsLocalRun ahead → slice_get (shown (Some m) before old).threads thread.0 ≡ Some found → CouldRun (shown (Some m) before old) found ahead
    → ((view : View) → Contains (touched_views ahead.views) view → IsNameResident (residents_of old) (Mapping found.space view.vpn))
    → shown (Some m) after new ≡ committed (shown (Some m) before old) thread.0 found ahead → KeepsLoaded old new
    → AreAsTold m after new true (j ++ Ran thread ahead.steps cpu ∷ [])
quantum_told m before after old new j thread found ahead cpu as_told few some there local is could loaded shows keeps =
    let formed = formed_told m before old true j as_told in
    ran_told m before after old new j thread cpu as_told few there keeps ahead.steps some
    (λ n low. step_through (after_steps (shown (Some m) before old) thread n) (residents_of old) thread found.space ahead.views loaded (local.each (shown (Some m) before old) thread.0 found formed is could n low))
    (shows ∙ sym (local.makes (shown (Some m) before old) thread.0 found formed is could))
