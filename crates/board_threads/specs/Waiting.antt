-- Which threads wait for a processor, and which of them is chosen.
use Rattle.std.specs.Prelude.{◌≡◌, ◌&&◌, ◌⊎◌, List, Contains, Bool, true, false, not, is_some, Option, None, Some, slice_get}
use Rattle.cache_ident.specs.declared.names.Name.TheVariants as name
use Rattle.cache_ident.specs.declared.names.ThreadNo.{ThreadNo}
use Rattle.cache_ident.specs.Residents.{IsNameResident}
use Rattle.flat_state.specs.declared.records.FlatThread.{FlatThread}
use Rattle.flat_state.specs.Signals.{is_runnable}
use Rattle.flat_state.specs.State.{is_ready}
use Rattle.slot_cache.specs.declared.loaded.Loaded.{Loaded}
use Rattle.thread_cache.specs.declared.ThreadRec.{ThreadRec}
use Rattle.board_core.specs.thread_sets.specs.SetsOf.{takes_steps}
use Rattle.ready_queue.specs.declared.Candidate.{Candidate}
use Rattle.ready_queue.specs.Choice.{is_before}
use Rattle.board_checks.specs.desc_stores.specs.Contents.{residents_of}
use Rattle.board_core.specs.cached_machine.specs.Cached.{state_of}
use Rattle.board_core.specs.cached_machine.specs.Posts.{last_of, mark_of}
use Rattle.board_core.specs.Core.{contents_of, Recorded}

-- The candidate is a loaded thread that no processor has, with its priority and its last checkout, and the thread passes the
-- test.
pub record IsFree (test : FlatThread → Bool) (b : Recorded) (c : Candidate) : Type 0 where
  pub thread : FlatThread
  pub there : slice_get (state_of b.machine).threads c.no.0 ≡ Some thread
  pub passes : test thread ≡ true
  pub loaded : IsNameResident (residents_of (contents_of b)) (name.Thread c.no)
  pub free : mark_of (contents_of b) c.no ≡ None
  pub priority : c.priority ≡ thread.priority
  pub last : c.last ≡ last_of (contents_of b) c.no

-- it is runnable
abbrev pub IsWaiting : Recorded → Candidate → Type 0
IsWaiting b = IsFree (is_runnable (state_of b.machine)) b

-- the thread waits, and no other one that waits goes before it
pub record IsChosenOf (b : Recorded) (whom : ThreadNo) : Type 0 where
  pub candidate : Candidate
  pub named : candidate.no ≡ whom
  pub waits : IsWaiting b candidate
  pub first : (other : Candidate) → IsWaiting b other → is_before other candidate ≡ false

-- ---- on the way there

-- a thread takes steps, and no processor has it
abbrev pub is_free : ThreadRec → Bool
is_free thread = is_ready thread.status && not (is_some thread.on_cpu)

-- the thread as a candidate
abbrev pub candidate_of : ThreadRec → Candidate
candidate_of thread = record { no = thread.no; priority = thread.priority; last = thread.last }

-- the candidate is a free one of these threads
pub record IsFreeAmong (list : List (Loaded ThreadRec)) (c : Candidate) : Type 0 where
  pub loaded : Loaded ThreadRec
  pub there : Contains list loaded
  pub free : is_free loaded.value ≡ true
  pub its : candidate_of loaded.value ≡ c

-- of the candidates that are meant none goes before this one, if there is one
abbrev pub IsFirstOf : (Candidate → Type 0) → Option Candidate → Type 0
IsFirstOf Is None = (c : Candidate) → Is c → ⊥
IsFirstOf Is (Some first) = Is first × ((c : Candidate) → Is c → is_before c first ≡ false)

-- the first of the free ones among these threads, if there is one
abbrev pub IsFirstAmong : List (Loaded ThreadRec) → Option Candidate → Type 0
IsFirstAmong list = IsFirstOf (IsFreeAmong list)

-- the first of all free ones, if there is one
abbrev pub IsFirstFree : Recorded → Option Candidate → Type 0
IsFirstFree b = IsFirstOf (IsFree takes_steps b)

-- of two the one that goes before, and the only one there is
abbrev pub IsEarlier : Option Candidate → Candidate → Candidate → Type 0
IsEarlier None other first = first ≡ other
IsEarlier (Some c) other first = ((first ≡ c) × (is_before other c ≡ false)) ⊎ ((first ≡ other) × (is_before c other ≡ false))

-- of those in a list that pass, none goes before it
pub record IsFirstThat (test : Candidate → Bool) (waiting : List Candidate) (c : Candidate) : Type 0 where
  pub there : Contains waiting c
  pub passes : test c ≡ true
  pub first : (other : Candidate) → Contains waiting other → test other ≡ true → is_before other c ≡ false
