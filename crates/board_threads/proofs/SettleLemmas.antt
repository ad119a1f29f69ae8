-- How a run stands, by who can go on.
use Rattle.std.proofs.Common.{◌≡◌, ℕ, ◌+◌, ◌<◌, Bool, true, false, not, ◌&&◌, List, length, get_or, take, take_all, Option, Some, None, refl, sym, ap, ◌∙◌, arith, slice_get}
use Rattle.std.specs.Prelude.{◌||◌, ◌==◌}
use Rattle.std.specs.List.{list_all, list_any}
use Rattle.std.specs.Option.{is_some, option_map}
use Rattle.std.proofs.lemmas.Bool.{eq-eqb, ne_eqb}
use Rattle.std.proofs.lemmas.List.Folds.{Any-from_list_any, list_all_at, list_all_more, list_any_at, list_any_none}
use Rattle.std.proofs.lemmas.List.Sums.{list_all-from_AllPass}
use Rattle.std.proofs.lemmas.Option.{get_or_from_slice_get, slice_get-get_or, slice_get_within}
use Rattle.cache_ident.specs.declared.names.ThreadNo.{ThreadNo}
use Rattle.number_set.specs.First.{IsFirstFrom}
use Rattle.rv32_exec.specs.declared.statuses.Status.{Status}
use Rattle.rv32_exec.specs.declared.statuses.Status.TheVariants.{Ready, Trapped, Ended}
use Rattle.flat_state.specs.declared.records.FlatThread.{FlatThread}
use Rattle.flat_state.specs.declared.records.Settled.{Settled}
use Rattle.flat_state.specs.declared.records.Settled.TheVariants.{Done, Stalled, Spent, Running}
use Rattle.flat_state.specs.Call.{has_nothing_to_take, is_completable}
use Rattle.flat_state.specs.Settling.{is_stuck, settled_of}
use Rattle.flat_state.specs.Signals.{full_receiver, is_runnable}
use Rattle.flat_state.specs.State.{FlatState, is_ended, is_ready, is_trapped}
use Rattle.flat_rules.proofs.Standings.{stands_whole, Says}
use Rattle.board_threads.specs.Tests.{passes}

-- ---- of a thread

-- it has ended, or it is stuck
abbrev stuck_by : Status → Bool → Bool → Bool
stuck_by status full waiting = is_ended status || ((is_ready status && full) || (is_trapped status && waiting))

abbrev completable_by : Status → Bool → Bool
completable_by status waiting = is_trapped status && not (is_trapped status && waiting)

abbrev runnable_by : Status → Bool → Bool
runnable_by status full = is_ready status && not full

completable_goes : (status : Status) (full waiting : Bool) → completable_by status waiting ≡ true → (is_ended status ≡ false) × (stuck_by status full waiting ≡ false)
completable_goes Trapped full false goes = (refl, refl)
completable_goes Trapped full true goes = absurd (cc)
completable_goes Ready full waiting goes = absurd (cc)
completable_goes (Ended reason) full waiting goes = absurd (cc)

runnable_goes : (status : Status) (full waiting : Bool) → runnable_by status full ≡ true → (is_ended status ≡ false) × (stuck_by status full waiting ≡ false)
runnable_goes Ready false waiting goes = (refl, refl)
runnable_goes Ready true waiting goes = absurd (cc)
runnable_goes Trapped full waiting goes = absurd (cc)
runnable_goes (Ended reason) full waiting goes = absurd (cc)

neither_stuck : (status : Status) (full waiting : Bool) → completable_by status waiting ≡ false → runnable_by status full ≡ false → stuck_by status full waiting ≡ true
neither_stuck Ready true waiting calls runs = refl
neither_stuck Ready false waiting calls runs = absurd (cc)
neither_stuck Trapped full true calls runs = refl
neither_stuck Trapped full false calls runs = absurd (cc)
neither_stuck (Ended reason) full waiting calls runs = refl

-- ---- of all threads

module _ (test : FlatThread → Bool) (ts : List FlatThread) where
  module _ (n : ℕ) (t : FlatThread) (there : slice_get ts n ≡ Some t) where
    within : n < length ts
    within = slice_get_within ts n t there

    here : get_or ts n t ≡ t
    here = get_or_from_slice_get ts n t t there

    pub one_passes : test t ≡ true → list_any test ts ≡ true
    one_passes holds = list_any_at test ts n t within (ap test here ∙ holds)

    pub one_fails : test t ≡ false → list_all test ts ≡ false
    one_fails fails = list_all_at test ts n t within (ap test here ∙ fails)

    pub one_more_passes : list_all test (take n ts) ≡ true → test t ≡ true → list_all test (take (n + 1) ts) ≡ true
    one_more_passes before holds = list_all_more test ts n t within ∙ ap (λ (x : Bool). x && test (get_or ts n t)) before ∙ ap test here ∙ holds

  -- who passes by its number is in the list
  pub found_by : (n : ℕ) → passes test (slice_get ts n) ≡ true → (t : FlatThread) × (slice_get ts n ≡ Some t) × (test t ≡ true)
  found_by n holds = by (slice_get ts n) refl holds
    where
      by : (o : Option FlatThread) → slice_get ts n ≡ o → passes test o ≡ true → (t : FlatThread) × (slice_get ts n ≡ Some t) × (test t ≡ true)
      by None is none = absurd (cc)
      by (Some t) is some = (t, is, some)

  pub none_passes : ((n : ℕ) → passes test (slice_get ts n) ≡ false) → list_any test ts ≡ false
  none_passes none = list_any_none test ts (λ k d low. sym (ap (passes test) (slice_get-get_or ts k d low)) ∙ none k)

  pub each_fails : list_any test ts ≡ false → (n : ℕ) (t : FlatThread) → slice_get ts n ≡ Some t → test t ≡ false
  each_fails none n t there = by (test t) refl
    where
      by : (x : Bool) → test t ≡ x → x ≡ false
      by false fails = refl
      by true holds = absurd (let some = one_passes n t there holds in cc)

-- ---- of a run

module _ (s : FlatState) (steps limit : ℕ) where
  so_settled : (x : Settled) → Says x (steps == limit) (list_all (λ t. is_ended t.status) s.threads) (list_all (is_stuck s) s.threads) (list_any is_completable s.threads) → x ≡ settled_of s steps limit
  so_settled x says = stands_whole s steps limit (length s.threads) x (omega arith) (rw (take_all (length s.threads) s.threads (omega arith)) says)

  going : (n : ℕ) (t : FlatThread) → slice_get s.threads n ≡ Some t → (is_ended t.status ≡ false) × (is_stuck s t ≡ false) → (list_all (λ t. is_ended t.status) s.threads ≡ false) × (list_all (is_stuck s) s.threads ≡ false)
  going n t there goes = (one_fails (λ u. is_ended u.status) s.threads n t there goes.0, one_fails (is_stuck s) s.threads n t there goes.1)

  -- a call can be completed
  pub completable_runs : (n : ℕ) → passes is_completable (slice_get s.threads n) ≡ true → Running ≡ settled_of s steps limit
  completable_runs n calls =
      let t = found_by is_completable s.threads n calls in
      let goes = going n t.0 t.1 (completable_goes t.0.status (is_some (full_receiver s t.0)) (has_nothing_to_take t.0) t.2) in
      let some = one_passes is_completable s.threads n t.0 t.1 t.2 in
      so_settled Running (goes.0, goes.1, ap (λ (x : Bool). not x && (steps == limit)) some)

  module _ (none : (n : ℕ) → passes is_completable (slice_get s.threads n) ≡ false) where
    no_call : list_any is_completable s.threads ≡ false
    no_call = none_passes is_completable s.threads none

    -- none can, and a thread is runnable
    module _ (runs : list_any (is_runnable s) s.threads ≡ true) where
      both : (list_all (λ t. is_ended t.status) s.threads ≡ false) × (list_all (is_stuck s) s.threads ≡ false)
      both =
          let found = Any-from_list_any (is_runnable s) s.threads runs in
          let t : FlatThread = found.1 in
          let there : slice_get s.threads found.0 ≡ Some t = slice_get-get_or s.threads found.0 t found.2 ∙ ap Some found.3 in
          going found.0 t there (runnable_goes t.status (is_some (full_receiver s t)) (has_nothing_to_take t) found.4)

      pub runnable_spent : steps ≡ limit → Spent ≡ settled_of s steps limit
      runnable_spent all = so_settled Spent (both.0, both.1, no_call, eq-eqb steps limit all)

      pub runnable_runs : (steps ≡ limit → ⊥) → Running ≡ settled_of s steps limit
      runnable_runs some = so_settled Running (both.0, both.1, and_false (not (list_any is_completable s.threads)) (ne_eqb steps limit some))
        where
          and_false : (x : Bool) {y : Bool} → y ≡ false → (x && y) ≡ false
          and_false true fails = fails
          and_false false fails = refl

    -- no thread is either
    module _ (idle : list_any (is_runnable s) s.threads ≡ false) where
      all_stuck : list_all (is_stuck s) s.threads ≡ true
      all_stuck = list_all-from_AllPass (is_stuck s) s.threads (λ k d low.
          let there = slice_get-get_or s.threads k d low in
          let t : FlatThread = get_or s.threads k d in
          neither_stuck t.status (is_some (full_receiver s t)) (has_nothing_to_take t) (sym (ap (passes is_completable) there) ∙ none k) (each_fails (is_runnable s) s.threads idle k t there))

      pub all_done : list_all (λ t. is_ended t.status) s.threads ≡ true → Done ≡ settled_of s steps limit
      all_done ended = so_settled Done (ended, all_stuck, no_call)

      pub all_stalled : list_all (λ t. is_ended t.status) s.threads ≡ false → Stalled ≡ settled_of s steps limit
      all_stalled some = so_settled Stalled (some, all_stuck, no_call)

-- what a search for the first number that passes found
pub some_first : (test : ℕ → Bool) (o : Option ThreadNo) → IsFirstFrom test 0 (option_map (λ whom. whom.0) o) → is_some o ≡ true → (n : ℕ) × (test n ≡ true)
some_first test None first there = absurd (cc)
some_first test (Some whom) first there = (whom.0, first.in_it)

pub none_first : (test : ℕ → Bool) (o : Option ThreadNo) → IsFirstFrom test 0 (option_map (λ whom. whom.0) o) → is_some o ≡ false → (n : ℕ) → test n ≡ false
none_first test None none absent = λ n. none n (omega arith)
none_first test (Some whom) first absent = absurd (cc)
