-- Why a declaration and the seal are refused, and what the calls leave.
use Rattle.std.specs.Prelude.{◌≡◌, ℕ, ◌+◌, ◌≤◌, true, ◌==◌, if◌then◌else◌, List, [], ◌∷◌, ◌++◌, length, Option, Some, None}
use Rattle.std.specs.List.Sorted.{IsNonDecreasingBy}
use Rattle.std.specs.Option.{option_map}
use Rattle.cache_ident.specs.declared.idents.Ident.{Ident}
use Rattle.cache_ident.specs.declared.names.Name.TheVariants.{Thread}
use Rattle.cache_ident.specs.declared.names.ThreadNo.{ThreadNo}
use Rattle.cache_ident.specs.Names.{first_name}
use Rattle.cache_ident.specs.Residents.{IsResident}
use Rattle.flat_state.specs.declared.events.Decl.{Decl}
use Rattle.flat_state.specs.declared.events.Event.TheVariants.{Complete}
use Rattle.flat_state.specs.Call.{is_completable}
use Rattle.flat_state.specs.Declaration.{broken_rule}
use Rattle.flat_state.specs.Events.{applied}
use Rattle.flat_rules.specs.Readings.{OfThread}
use Rattle.board_checks.specs.run_journal.specs.declared.entries.Entry.{Entry}
use Rattle.board_checks.specs.run_journal.specs.declared.entries.Entry.TheVariants as entry
use Rattle.board_checks.specs.run_journal.specs.Legal.{first_ident}
use Rattle.board_core.specs.flat_events.specs.declared.asked.Asked.TheVariants.{Nothing}
use Rattle.board_core.specs.flat_events.specs.Asked.{asked_of}
use Rattle.board_checks.specs.desc_stores.specs.Contents.{residents_of}
use Rattle.board_checks.specs.desc_parents.specs.Seen.{seen}
use Rattle.board_checks.specs.board_ops.specs.declared.refusals.Refused.{Refused}
use Rattle.board_checks.specs.board_ops.specs.declared.refusals.Refused.TheVariants as why
use Rattle.board_core.specs.cached_machine.specs.Cached.{state_of}
use Rattle.board_core.specs.cached_machine.specs.Posts.{HasLoadedMarks, HasSameMarks}
use Rattle.board_core.specs.Core.{contents_of, Recorded}
use Rattle.board_core.specs.Growth.{GrowsBy, KeepsPlaces}
use Rattle.board_calls.specs.Departures.{LeaveInTurn}
use Rattle.board_calls.specs.Leaving.{AreBad}

-- ---- refusals

-- the seal has ended the declarations
abbrev pub not_open : Recorded → Option Refused
not_open b = if b.sealed then Some why.Sealed else None

abbrev pub refusal_of_declare : Recorded → Decl → Option Refused
refusal_of_declare b d = if b.sealed then Some why.Sealed else option_map why.BadDecl (broken_rule (state_of b.machine) d)

abbrev pub refusal_of_seal : Recorded → Option Refused
refusal_of_seal b = if length (state_of b.machine).kernels == 0 then Some (why.NotDeclared first_name) else not_open b

-- ---- what is done

-- the declaration was made
pub record IsDeclaring (d : Decl) (old new : Recorded) : Type 0 where
  pub grows : GrowsBy (entry.Declared d ∷ []) old new
  pub places : KeepsPlaces old new

-- the declarations ended, and the first kernel was loaded and locked, with the one identifier that was issued
pub record IsSealing (old new : Recorded) (ident : Ident) : Type 0 where
  pub first : ident ≡ first_ident
  pub grows : GrowsBy (entry.Sealed ∷ entry.Loaded first_ident first_name 0 ∷ entry.Locked first_ident 0 ∷ []) old new
  pub sealed : new.sealed ≡ true
  pub marks : HasSameMarks (contents_of old) (contents_of new)
  pub checkouts : new.checkouts ≡ old.checkouts
  pub spare : (contents_of old).spare ≤ (contents_of new).spare + 1

-- The thread of that number is loaded with the identifier and in a call that can be completed, and these are what leaves first, in
-- order of serial.
pub record IsPlanned (b : Recorded) (thread : Ident) (no : ThreadNo) (idents : List Ident) : Type 0 where
  pub its : IsResident (residents_of (contents_of b)) thread (Thread no)
  pub sealed : b.sealed ≡ true
  pub completable : OfThread (state_of b.machine) no.0 (λ t. is_completable t ≡ true)
  pub bad : AreBad (applied (state_of b.machine) (Complete no)) (residents_of (contents_of b)) idents
  pub ordered : IsNonDecreasingBy (λ ident. ident.serial) idents
  pub quiet : OfThread (state_of b.machine) no.0 (λ t. asked_of (state_of b.machine) t ≡ Nothing → idents ≡ [])

-- The call of the thread that was loaded with the identifier was completed. What would have been bad then left first, in order
-- of serial, each with its group. No fewer identifiers can be issued without memory.
pub record IsCompletion (cpu : ℕ) (thread : Ident) (old new : Recorded) : Type 0 where
  pub no : ThreadNo
  pub its : IsResident (residents_of (contents_of old)) thread (Thread no)
  pub idents : List Ident
  pub bad : AreBad (applied (state_of old.machine) (Complete no)) (residents_of (contents_of old)) idents
  pub ordered : IsNonDecreasingBy (λ ident. ident.serial) idents
  pub departures : List Entry
  pub turns : LeaveInTurn (seen (contents_of old)) cpu idents (residents_of (contents_of old)) departures (residents_of (contents_of new))
  pub grows : GrowsBy (departures ++ entry.Completed no cpu ∷ []) old new
  pub state : state_of new.machine ≡ applied (state_of old.machine) (Complete no)
  pub marks : HasLoadedMarks (contents_of old) (contents_of new)
  pub sealed : new.sealed ≡ old.sealed
  pub checkouts : new.checkouts ≡ old.checkouts
  pub spare : (contents_of old).spare ≤ (contents_of new).spare
