-- What is tested of threads by their numbers, and what the sets of threads say of that.
use Rattle.std.proofs.Common.{◌≡◌, ℕ, zero, suc, ◌+◌, ◌<◌, ◌≤◌, Bool, false, not, ◌&&◌, List, [], ◌∷◌, map, get_or, Option, Some, None, IsTrue, refl, sym, ap, ◌∙◌, subst, inl, inr, arith, slice_get}
use Rattle.std.specs.Option.{is_some}
use Rattle.std.proofs.lemmas.Bool.{cases_lt}
use Rattle.flat_state.specs.declared.records.FlatThread.{FlatThread}
use Rattle.flat_state.specs.Call.{is_completable}
use Rattle.flat_state.specs.Signals.{full_receiver, is_runnable}
use Rattle.flat_state.specs.State.{FlatState}
use Rattle.number_set.specs.First.{IsFirstFrom}
use Rattle.number_set.specs.Members.{is_in}
use Rattle.board_core.specs.thread_sets.specs.Sets.{Sets}
use Rattle.board_core.specs.thread_sets.specs.SetsOf.{takes_steps, AreSetsOf}
use Rattle.board_core.specs.cached_machine.specs.Cached.{state_of, Cached}
use Rattle.board_core.specs.Core.{Recorded}
use Rattle.board_threads.specs.Tests.{completes, goes_on, is_ready_at, passes}

-- a flag is what the test says of the thread
flag_at : (test : FlatThread → Bool) (ts : List FlatThread) (n : ℕ) → get_or (map test ts) n false ≡ passes test (slice_get ts n)
flag_at test [] n = refl
flag_at test (t ∷ ts) zero = refl
flag_at test (t ∷ ts) (suc n) = flag_at test ts n

-- the first number of which one test says so is the first of which an equal one does
first_alike : (p q : ℕ → Bool) → ((n : ℕ) → p n ≡ q n) → (from : ℕ) (o : Option ℕ) → IsFirstFrom p from o → IsFirstFrom q from o
first_alike p q same from None none = λ n low. sym (same n) ∙ none n low
first_alike p q same from (Some k) first = record {
  from_there = first.from_there;
  in_it = subst IsTrue (same k) first.in_it;
  none_before = λ n low before. sym (same n) ∙ first.none_before n low before;
}

module _ (b : Recorded) (m : Cached) (sets given : Sets) (machine : m ≡ b.machine) (is : given ≡ m.sets) (of : AreSetsOf (state_of m).threads m.sets) where
  flag : (test : FlatThread → Bool) (flags : Sets → List Bool) → flags m.sets ≡ map test (state_of m).threads → (n : ℕ) → is_in (flags given) n ≡ passes test (slice_get (state_of b.machine).threads n)
  flag test flags are n =
      ap (λ (s : Sets). is_in (flags s) n) is ∙ ap (λ (list : List Bool). is_in list n) are ∙ flag_at test (state_of m).threads n
      ∙ ap (λ (x : Cached). passes test (slice_get (state_of x).threads n)) machine

  pub first_completable : (o : Option ℕ) → IsFirstFrom (is_in given.completable) 0 o → IsFirstFrom (completes b) 0 o
  first_completable o first = first_alike (is_in given.completable) (completes b) (flag is_completable (λ (s : Sets). s.completable) of.completable) 0 o first

  pub first_ready : (from : ℕ) (o : Option ℕ) → IsFirstFrom (is_in given.ready) from o → IsFirstFrom (is_ready_at b) from o
  first_ready from o first = first_alike (is_in given.ready) (is_ready_at b) (flag takes_steps (λ (s : Sets). s.ready) of.ready) from o first

-- ---- one number after another

-- no number below is one of which the test says so
abbrev pub NoneBelow : (ℕ → Bool) → ℕ → Type 0
NoneBelow test n = (k : ℕ) → k < n → test k ≡ false

none_up_to : (test : ℕ → Bool) (from n : ℕ) → NoneBelow test from → ((k : ℕ) → from ≤ k → k < n → test k ≡ false) → NoneBelow test n
none_up_to test from n below between k low = elim (cases_lt k from) [
  | inl before ↦ below k before
  | inr behind ↦ between k behind low
]

-- who isn't ready can't go on
idle_stays : (s : FlatState) (o : Option FlatThread) → passes takes_steps o ≡ false → passes (is_runnable s) o ≡ false
idle_stays s None idle = refl
idle_stays s (Some t) idle = ap (λ (x : Bool). x && not (is_some (full_receiver s t))) idle

pub idle_going : (b : Recorded) (n : ℕ) → is_ready_at b n ≡ false → goes_on b n ≡ false
idle_going b n idle = idle_stays (state_of b.machine) (slice_get (state_of b.machine).threads n) idle

-- none at all passes, where none more is ready
pub none_at_all : (test : ℕ → Bool) (b : Recorded) → ((n : ℕ) → is_ready_at b n ≡ false → test n ≡ false) → (from : ℕ) → NoneBelow test from → ((n : ℕ) → from ≤ n → is_ready_at b n ≡ false) → (n : ℕ) → test n ≡ false
none_at_all test b idle from below none n = none_up_to test from (n + 1) below (λ k low before. idle k (none k low)) n (omega arith)
