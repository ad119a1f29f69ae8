-- What a look tells.
use Rattle.std.proofs.Common.{◌≡◌, ◌≢◌, ℕ, Bool, true, false, not, List, Option, Some, None, slice_get, refl, sym, ap, ◌∙◌, subst, inl, inr}
use Rattle.std.specs.Prelude.{◌&&◌}
use Rattle.cache_ident.specs.declared.names.Name.TheVariants as name
use Rattle.cache_ident.specs.declared.names.ThreadNo.{ThreadNo}
use Rattle.cache_ident.specs.Residents.{Resident, IsNameResident}
use Rattle.flat_state.specs.declared.records.FlatThread.{FlatThread}
use Rattle.flat_state.specs.declared.records.Settled.TheVariants.{Running}
use Rattle.flat_state.specs.Call.{is_completable}
use Rattle.flat_state.specs.Events.{flat}
use Rattle.flat_state.specs.Signals.{is_runnable}
use Rattle.flat_state.specs.State.{FlatState}
use Rattle.cache_board.specs.run_journal.specs.Entries.{erase}
use Rattle.cache_board.proofs.PastLaws.{shows_residents, shows_flat}
use Rattle.cache_board.specs.desc_stores.specs.Contents.{residents_of}
use Rattle.cache_board.specs.cached_machine.specs.Cached.{is_loaded, state_of}
use Rattle.cache_board.specs.cached_machine.proofs.LoadedLaws.{loaded_by}
use Rattle.cache_board.specs.board_core.specs.Core.{contents_of, IsSound, Recorded}
use Rattle.cache_board.specs.board_core.specs.Going.{IsOneEvent}
use Rattle.cache_board.specs.board_core.proofs.GoingLaws.{grew_nothing}
use Rattle.cache_board.specs.board_threads.specs.Tests.{goes_on, passes, IsWanted}
use Rattle.board_turns.specs.declared.found.Found.{Found}
use Rattle.board_turns.specs.declared.found.Found.TheVariants.{Out, Wanted, Nothing, Over}
use Rattle.quantum.specs.Ahead.{Ahead}
use Rattle.cache_board.specs.board_threads.specs.declared.tickets.Ticket.{Ticket}
use Rattle.board_turns.specs.Holds.{AreTaken, HasLookedIf}
use Rattle.board_turns.specs.Looks.{settled_on, HasLooked, IsFound, IsIdle, IsSoAlone, IsSoWhere}

pub event_nothing : (cpu : ℕ) (b : Recorded) → IsSound b → IsOneEvent cpu b b
event_nothing cpu b sound = record { grew = grew_nothing cpu b; was = sound; sound = sound }

-- a look while the run goes on
pub looked_running : (want_first : Bool) (old new : Recorded) (found : Found) → settled_on old ≡ Running → IsFound 0 want_first old new found → HasLooked want_first old new found
looked_running want_first old new (Out ticket) running found = record { running = running; found = found }
looked_running want_first old new (Wanted whom trapped pc) running found = record { running = running; found = found }
looked_running want_first old new Nothing running found = record { running = running; found = found }
looked_running want_first old new Over running found = absurd found

-- a thread that is wanted stands
pub wanted_stands : (b : Recorded) (whom : ThreadNo) → IsWanted b (Some whom) → slice_get (state_of b.machine).threads whom.0 ≡ None → ⊥
wanted_stands b whom wanted none = elim wanted [
  | inl calls ↦ let never : passes is_completable (slice_get (state_of b.machine).threads whom.0) ≡ false = ap (passes is_completable) none in let goes = calls.in_it in cc
  | inr load ↦ goes_nowhere (not (is_loaded (contents_of b) (name.Thread whom))) (goes_on b whom.0) (ap (passes (is_runnable (state_of b.machine))) none) load.1.in_it
]
  where
    goes_nowhere : (x y : Bool) → y ≡ false → (x && y) ≡ true → ⊥
    goes_nowhere true y never both = cc
    goes_nowhere false y never both = cc

-- ---- nobody is there

module _ (b : Recorded) (sound : IsSound b) (wanted : IsWanted b None) where
  there_so : (whom : ThreadNo) (t : FlatThread) → slice_get (flat (erase b.journal.entries)).threads whom.0 ≡ Some t → slice_get (state_of b.machine).threads whom.0 ≡ Some t
  there_so whom t there = ap (λ (s : FlatState). slice_get s.threads whom.0) (shows_flat b sound) ∙ there

  loaded_if : (loaded goes : Bool) → (not loaded && goes) ≡ false → goes ≡ true → loaded ≡ true
  loaded_if true goes absent is = refl
  loaded_if false true absent is = absurd (cc)
  loaded_if false false absent is = absurd (cc)

  pub idle : IsIdle b.journal.entries
  idle = record {
    calls = λ whom t there. sym (ap (passes is_completable) (there_so whom t there)) ∙ wanted.0 whom.0;
    loaded = λ whom t there runs.
        let here : goes_on b whom.0 ≡ true = ap (passes (is_runnable (state_of b.machine))) (there_so whom t there) ∙ ap (λ (s : FlatState). is_runnable s t) (shows_flat b sound) ∙ runs in
        subst (λ (rs : List Resident). IsNameResident rs (name.Thread whom)) (shows_residents b sound)
        (loaded_by (residents_of (contents_of b)) (name.Thread whom) (loaded_if (is_loaded (contents_of b) (name.Thread whom)) (goes_on b whom.0) (wanted.1 whom.0) here));
  }

-- whom a look by the processor found, and why nobody
pub so_found : (cpu : ℕ) (over : Type 0) (want_first : Bool) (old new : Recorded) (found : Found) → IsSound old → IsFound cpu want_first old new found → IsSoWhere cpu over new.journal.entries found
so_found cpu over want_first old new (Out ticket) sound is = is.ticket_for.processor
so_found cpu over want_first old new (Wanted whom trapped pc) sound is = tt
so_found cpu over want_first old new Nothing sound is = subst (λ (b : Recorded). IsIdle b.journal.entries) (sym is.same) (idle old sound is.wanted)
so_found cpu over want_first old new Over sound is = absurd is

pub so_alone : (want_first : Bool) (old new : Recorded) (found : Found) → IsSound old → IsFound 0 want_first old new found → IsSoAlone new found
so_alone want_first old new found sound is = so_found 0 (settled_on new ≢ Running) want_first old new found sound is

-- a look behind steps that happened, if one is made
pub taken_then : (ticket : Ticket) (q : Ahead) (look : Option Bool) (old mid new : Recorded) (before next : Option Found) → AreTaken ticket q None old mid before → HasLookedIf look mid new next → AreTaken ticket q look old new next
taken_then ticket q look old mid new None next taken looked =
    record { passes = taken.passes; between = taken.between; committed = taken.committed; looked = subst (λ (b : Recorded). HasLookedIf look b new next) taken.looked looked }
taken_then ticket q look old mid new (Some found) next taken looked = absurd taken.looked

-- a look takes no steps
pub steps_looked : (want_first : Bool) (a b : Recorded) (found : Found) → HasLooked want_first a b found → b.steps ≡ a.steps
steps_looked want_first a b (Out ticket) looked = ap (λ (x : Recorded). x.steps) looked.found.out.rest
steps_looked want_first a b (Wanted whom trapped pc) looked = ap (λ (x : Recorded). x.steps) looked.found.same
steps_looked want_first a b Nothing looked = ap (λ (x : Recorded). x.steps) looked.found.same
steps_looked want_first a b Over looked = ap (λ (x : Recorded). x.steps) looked.same

pub steps_looked_if : (look : Option Bool) (old new : Recorded) (next : Option Found) → HasLookedIf look old new next → new.steps ≡ old.steps
steps_looked_if None old new None looked = ap (λ (b : Recorded). b.steps) looked
steps_looked_if (Some want_first) old new (Some found) looked = steps_looked want_first old new found looked
steps_looked_if None old new (Some found) looked = absurd looked
steps_looked_if (Some want_first) old new None looked = absurd looked
