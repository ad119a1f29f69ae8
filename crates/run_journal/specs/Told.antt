-- What the entries of a journal tell, one after another.
use Rattle.std.specs.Prelude.{ℕ, ◌+◌, ◌==◌, Bool, true, false, if◌then◌else◌, List, [], ◌∷◌, ◌++◌}
use Rattle.cache_ident.specs.declared.idents.Cause.{Cause}
use Rattle.cache_ident.specs.declared.idents.Cause.TheVariants as causes
use Rattle.cache_ident.specs.declared.idents.Ident.{Ident}
use Rattle.cache_ident.specs.declared.idents.Kind.{Kind}
use Rattle.cache_ident.specs.Residents.{Resident, with_loaded, without, with_lock}
use Rattle.flat_state.specs.State.{FlatState, nothing_declared}
use Rattle.flat_state.specs.Events.{after_events}
use Rattle.run_journal.specs.declared.entries.Entry.{Entry}
use Rattle.run_journal.specs.declared.entries.Entry.TheVariants.{Declared, Sealed, Loaded, WrittenBack, Locked, Unlocked, Ran, Ended, Completed}
use Rattle.run_journal.specs.Entries.{events_of}

-- ---- what is resident

-- what is resident after an entry
abbrev pub residents_after : List Resident → Entry → List Resident
residents_after rs (Declared d) = rs
residents_after rs Sealed = rs
residents_after rs (Loaded ident name cpu) = with_loaded ident name rs
residents_after rs (WrittenBack ident cause cpu) = without ident rs
residents_after rs (Locked ident cpu) = with_lock ident true rs
residents_after rs (Unlocked ident cpu) = with_lock ident false rs
residents_after rs (Ran thread steps cpu) = rs
residents_after rs (Ended thread cpu) = rs
residents_after rs (Completed thread cpu) = rs

-- .. and after some more
abbrev pub residents_from : List Resident → List Entry → List Resident
residents_from rs [] = rs
residents_from rs (e ∷ es) = residents_from (residents_after rs e) es

-- what is resident after a journal, in order of loading: what was loaded, and has not left since
abbrev pub residents : List Entry → List Resident
residents j = residents_from [] j

abbrev pub is_load : Entry → Bool
is_load (Loaded ident name cpu) = true
is_load (Declared d) = false
is_load Sealed = false
is_load (WrittenBack ident cause cpu) = false
is_load (Locked ident cpu) = false
is_load (Unlocked ident cpu) = false
is_load (Ran thread steps cpu) = false
is_load (Ended thread cpu) = false
is_load (Completed thread cpu) = false

abbrev pub is_seal : Entry → Bool
is_seal Sealed = true
is_seal (Declared d) = false
is_seal (Loaded ident name cpu) = false
is_seal (WrittenBack ident cause cpu) = false
is_seal (Locked ident cpu) = false
is_seal (Unlocked ident cpu) = false
is_seal (Ran thread steps cpu) = false
is_seal (Ended thread cpu) = false
is_seal (Completed thread cpu) = false

-- ---- what has to come next

pub data Due : Type 0 where
  -- the machine
  Opening : Due
  Anything : Due
  -- behind the seal the first kernel is loaded, and then locked
  FirstLoad : Due
  FirstLock : Due
  -- behind a dependent something else leaves, by that processor
  Departure : ℕ → Due
  -- behind what is displaced something of its kind is loaded, by that processor
  Load : Kind → ℕ → Due

-- ---- all that is told

pub record Told : Type 0 where
  -- the machine with unlimited tables
  pub state : FlatState
  pub sealed : Bool
  -- how many entries loaded something
  pub loads : ℕ
  pub residents : List Resident
  -- what was resident before the group that is leaving, and what of the group has left
  pub before : List Resident
  pub left : List Ident
  pub due : Due

abbrev pub nothing_told : Told
nothing_told = record { state = nothing_declared; sealed = false; loads = 0; residents = []; before = []; left = []; due = Opening }

-- what is due behind the first load, and behind any other
abbrev pub due_after_load : ℕ → Due
due_after_load loads = if loads == 0 then FirstLock else Anything

-- behind an entry that is no departure no group is leaving
abbrev pub told_of : FlatState → Bool → ℕ → List Resident → Due → Told
told_of state sealed loads rs due = record { state = state; sealed = sealed; loads = loads; residents = rs; before = rs; left = []; due = due }

-- a dependent leaves in a group that goes on, and anything else ends its group
abbrev pub told_after_back : Told → Ident → Cause → ℕ → Told
told_after_back k ident causes.Dependent cpu = record k { residents = without ident k.residents; left = k.left ++ ident ∷ []; due = Departure cpu }
told_after_back k ident causes.Displaced cpu = told_of k.state k.sealed k.loads (without ident k.residents) (Load ident.kind cpu)
told_after_back k ident causes.Unloaded cpu = told_of k.state k.sealed k.loads (without ident k.residents) Anything

abbrev pub told_after : Told → Entry → Told
told_after k (Declared d) = told_of (after_events k.state (events_of (Declared d))) k.sealed k.loads k.residents Anything
told_after k Sealed = told_of k.state true k.loads k.residents FirstLoad
told_after k (Loaded ident name cpu) = told_of k.state k.sealed (k.loads + 1) (with_loaded ident name k.residents) (due_after_load k.loads)
told_after k (WrittenBack ident cause cpu) = told_after_back k ident cause cpu
told_after k (Locked ident cpu) = told_of k.state k.sealed k.loads (with_lock ident true k.residents) Anything
told_after k (Unlocked ident cpu) = told_of k.state k.sealed k.loads (with_lock ident false k.residents) Anything
told_after k (Ran thread steps cpu) = told_of (after_events k.state (events_of (Ran thread steps cpu))) k.sealed k.loads k.residents Anything
told_after k (Ended thread cpu) = told_of (after_events k.state (events_of (Ended thread cpu))) k.sealed k.loads k.residents Anything
told_after k (Completed thread cpu) = told_of (after_events k.state (events_of (Completed thread cpu))) k.sealed k.loads k.residents Anything

abbrev pub told_from : Told → List Entry → Told
told_from k [] = k
told_from k (e ∷ es) = told_from (told_after k e) es

-- what a journal tells
abbrev pub told : List Entry → Told
told j = told_from nothing_told j
