-- Whom a turn finds while a board is running.
use Rattle.std.proofs.Common.{◌≡◌, ◌≢◌, ◌<◌, ◌≤◌, ℕ, Bool, true, false, not, List, Some, None, slice_get, refl, ap, ◌∙◌, inl, inr, arith}
use Rattle.std.proofs.lemmas.Bool.{cases_Bool}
use Rattle.std.specs.Prelude.{◌&&◌}
use Rattle.std.specs.List.{list_all, list_any}
use Rattle.std.proofs.lemmas.List.Folds.{Any-from_list_any}
use Rattle.std.proofs.lemmas.Option.{slice_get-get_or}
use Rattle.cache_ident.specs.declared.names.Name.TheVariants as name
use Rattle.cache_ident.specs.declared.names.ThreadNo.{ThreadNo}
use Rattle.board_loads.specs.flat_state.specs.declared.records.FlatThread.{FlatThread}
use Rattle.board_loads.specs.flat_state.specs.declared.records.Settled.TheVariants.{Done, Stalled, Spent, Running}
use Rattle.board_loads.specs.flat_state.specs.Call.{is_completable}
use Rattle.board_loads.specs.flat_state.specs.Settling.{settled_of}
use Rattle.board_loads.specs.flat_state.specs.Signals.{is_runnable}
use Rattle.board_loads.specs.flat_state.specs.State.{FlatState, is_ended}
use Rattle.ready_queue.specs.declared.Candidate.{Candidate}
use Rattle.board_threads.specs.board_core.specs.Core.{contents_of, Recorded}
use Rattle.board_threads.specs.desc_stores.specs.Contents.{residents_of}
use Rattle.board_threads.specs.cached_machine.specs.Cached.{is_loaded, state_of}
use Rattle.board_threads.specs.cached_machine.specs.Posts.{last_of, mark_of}
use Rattle.board_threads.specs.cached_machine.proofs.LoadedLaws.{loaded_by}
use Rattle.board_threads.specs.Tests.{completes, goes_on, passes, IsWanted}
use Rattle.board_threads.specs.Waiting.{IsWaiting}
use Rattle.board_threads.proofs.SettleLemmas.{all_done, all_stalled, runnable_spent}

module _ (s : FlatState) (steps limit : ℕ) (runs : settled_of s steps limit ≡ Running) (none : (n : ℕ) → passes is_completable (slice_get s.threads n) ≡ false) where
  -- somebody is runnable
  pub somebody : list_any (is_runnable s) s.threads ≡ true
  somebody = elim (cases_Bool (list_any (is_runnable s) s.threads)) [
    | inl some ↦ some
    | inr idle ↦ elim (cases_Bool (list_all (λ (t : FlatThread). is_ended t.status) s.threads)) [
      | inl ended ↦ let clash : Done ≡ Running = all_done s steps limit none idle ended ∙ runs in absurd (cc)
      | inr not_all ↦ let clash : Stalled ≡ Running = all_stalled s steps limit none idle not_all ∙ runs in absurd (cc)
    ]
  ]

  pub left : steps ≢ limit
  left spent = let clash : Spent ≡ Running = runnable_spent s steps limit none somebody spent ∙ runs in absurd (cc)

-- where both are so, one is
loaded_if : (loaded goes : Bool) → (not loaded && goes) ≡ false → goes ≡ true → loaded ≡ true
loaded_if true goes absent is = refl
loaded_if false true absent is = absurd (cc)
loaded_if false false absent is = absurd (cc)

-- a list that somebody in it passes has him at a place
at_place : (test : FlatThread → Bool) (ts : List FlatThread) → list_any test ts ≡ true → (n : ℕ) × (t : FlatThread) × (slice_get ts n ≡ Some t) × (test t ≡ true)
at_place test ts some = let found = Any-from_list_any test ts some in (found.0, found.1, slice_get-get_or ts found.0 found.1 found.2 ∙ ap (λ (t : FlatThread). Some t) found.3, found.4)

pub somebody_waits : (b : Recorded) → settled_of (state_of b.machine) b.steps b.limit ≡ Running → ((no : ThreadNo) → mark_of (contents_of b) no ≡ None) → IsWanted b None → ((c : Candidate) → IsWaiting b c → ⊥) → ⊥
somebody_waits b runs unmarked wanted nobody =
    let s : FlatState = state_of b.machine in
    let found = at_place (is_runnable s) s.threads (somebody s b.steps b.limit runs wanted.0) in
    let whom : ThreadNo = record { 0 = found.0 } in
    let goes : goes_on b found.0 ≡ true = ap (passes (is_runnable s)) found.2 ∙ found.3 in
    let loaded : is_loaded (contents_of b) (name.Thread whom) ≡ true = loaded_if (is_loaded (contents_of b) (name.Thread whom)) (goes_on b found.0) (wanted.1 found.0) goes in
    let r = loaded_by (residents_of (contents_of b)) (name.Thread whom) loaded in
    let c : Candidate = record { no = whom; priority = found.1.priority; last = last_of (contents_of b) whom } in
    nobody c (record { thread = found.1; there = found.2; passes = found.3; loaded = r; free = unmarked whom; priority = refl; last = refl })

pub steps_left : (b : Recorded) → settled_of (state_of b.machine) b.steps b.limit ≡ Running → ((n : ℕ) → completes b n ≡ false) → b.steps ≤ b.limit → b.steps < b.limit
steps_left b runs none within = let unequal = left (state_of b.machine) b.steps b.limit runs none in omega arith
