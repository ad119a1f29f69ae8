-- How a run stands, by how its threads do.
use Rattle.std.proofs.Common.{◌≡◌, ◌≢◌, ℕ, ◌+◌, Bool, true, false, not, ◌&&◌, cond, List, length, get_or, take, take_all, Some, refl, subst, ◌<◌, ◌≤◌}
use Rattle.std.specs.Prelude.{◌||◌, ◌==◌}
use Rattle.std.proofs.Math.Bool.{and-true, and-false, or-false}
use Rattle.std.specs.Option.{is_some}
use Rattle.std.specs.List.{list_all, list_any, slice_get}
use Rattle.std.proofs.lemmas.List.Folds.{list_all_at, list_all_more, list_any_at, list_any_more}
use Rattle.std.proofs.lemmas.Option.{get_or_from_slice_get, slice_get_within}
use Rattle.rv32_exec.specs.declared.statuses.Status.{Status}
use Rattle.rv32_exec.specs.declared.statuses.Status.TheVariants.{Ready, Trapped, Ended}
use Rattle.flat_state.specs.declared.records.FlatThread.{FlatThread}
use Rattle.flat_state.specs.declared.records.Settled.{Settled}
use Rattle.flat_state.specs.declared.records.Settled.TheVariants.{Done, Stalled, Spent, Running}
use Rattle.flat_state.specs.State.{FlatState, is_ready, is_trapped, is_ended}
use Rattle.flat_state.specs.Signals.{full_receiver}
use Rattle.flat_state.specs.Call.{has_nothing_to_take, is_completable}
use Rattle.flat_state.specs.Settling.{is_stuck, settled_of}
use Rattle.flat_rules.specs.Settling.{settled_by}

-- what a verdict says: whether all have ended, whether all are stuck, and whether some call can be completed
abbrev pub Says : Settled → Bool → Bool → Bool → Bool → Type 0
Says Done spent ended stuck completable = (ended ≡ true) × (stuck ≡ true) × (completable ≡ false)
Says Stalled spent ended stuck completable = (ended ≡ false) × (stuck ≡ true) × (completable ≡ false)
Says Spent spent ended stuck completable = (ended ≡ false) × (stuck ≡ false) × (completable ≡ false) × (spent ≡ true)
Says Running spent ended stuck completable = (ended ≡ false) × (stuck ≡ false) × ((not completable && spent) ≡ false)

abbrev pub verdict : Bool → Bool → Bool → Bool → Settled
verdict spent ended stuck completable = cond ended Done (cond stuck Stalled (cond (not completable && spent) Spent Running))

-- only one verdict says so
one_verdict : (x : Settled) (spent ended stuck completable : Bool) → Says x spent ended stuck completable → x ≡ verdict spent ended stuck completable
one_verdict Done spent ended stuck completable h = rw h.0 refl
one_verdict Stalled spent ended stuck completable h = rw (h.0, h.1) refl
one_verdict Spent spent ended stuck completable h = rw (h.0, h.1, h.2, h.3) refl
one_verdict Running spent ended stuck completable h = rw (h.0, h.1, h.2) refl

of_thread : (status : Status) (full waiting spent : Bool) → let ended = is_ended status in let stuck = ended || ((is_ready status && full) || (is_trapped status && waiting)) in let completable = is_trapped status && not (is_trapped status && waiting) in Says (verdict spent ended stuck completable) spent ended stuck completable
of_thread (Ended reason) full waiting spent = (refl, refl, refl)
of_thread Ready true waiting spent = (refl, refl, refl)
of_thread Ready false waiting true = (refl, refl, refl, refl)
of_thread Ready false waiting false = (refl, refl, refl)
of_thread Trapped full true spent = (refl, refl, refl)
of_thread Trapped full false spent = (refl, refl, refl)

-- ---- with one thread more

with_stuck : (x : Settled) (spent ended stuck completable : Bool) → x ≢ Done → x ≢ Running → Says x spent ended stuck completable → Says x spent (ended && false) (stuck && true) (completable || false)
with_stuck Done spent ended stuck completable stays going h = absurd (stays refl)
with_stuck Stalled spent ended stuck completable stays going h = simp (and-false, and-true, or-false) (refl, h.1, h.2)
with_stuck Spent spent ended stuck completable stays going h = simp (and-false, and-true, or-false) (refl, h.1, h.2, h.3)
with_stuck Running spent ended stuck completable stays going h = absurd (going refl)

not_completable : (x : Settled) (spent ended stuck completable : Bool) → x ≢ Running → Says x spent ended stuck completable → completable ≡ false
not_completable Done spent ended stuck completable going h = h.2
not_completable Stalled spent ended stuck completable going h = h.2
not_completable Spent spent ended stuck completable going h = h.2
not_completable Running spent ended stuck completable going h = absurd (going refl)

still_going : (one some spent : Bool) → (one ≡ true → some ≡ true) → (not one && spent) ≡ false → (not some && spent) ≡ false
still_going true some spent found going = rw (found refl) refl
still_going false some spent found going = rw going (and-false (not some))

-- how a run stands as far as these threads go
abbrev pub Stands : FlatState → Bool → List FlatThread → Settled → Type 0
Stands s spent ts x = Says x spent (list_all (λ t. is_ended t.status) ts) (list_all (is_stuck s) ts) (list_any is_completable ts)

pub stands_whole : (s : FlatState) (steps limit n : ℕ) (x : Settled) → length s.threads ≤ n → Stands s (steps == limit) (take n s.threads) x → x ≡ settled_of s steps limit
unfolding settled_of
stands_whole s steps limit n x whole h = one_verdict x (steps == limit) _ _ _ (rw (take_all n s.threads whole) at h)

module _ (s : FlatState) (spent : Bool) (k : ℕ) (t : FlatThread) (at : slice_get s.threads k ≡ Some t) where
  abbrev ts : List FlatThread
  ts = s.threads

  within : k < length ts
  within = slice_get_within ts k t at

  here : get_or ts k t ≡ t
  here = get_or_from_slice_get ts k t t at

  by : (x : Settled) → settled_by s t spent ≡ x → Says x spent (is_ended t.status) (is_stuck s t) (is_completable t)
  by x e = subst (λ (y : Settled). Says y spent (is_ended t.status) (is_stuck s t) (is_completable t)) e (of_thread t.status (is_some (full_receiver s t)) (has_nothing_to_take t) spent)

  all_more : (p : FlatThread → Bool) (b : Bool) → p t ≡ b → list_all p (take (k + 1) ts) ≡ (list_all p (take k ts) && b)
  all_more p b e = rw (list_all_more p ts k t within, here, e) refl

  any_more : (p : FlatThread → Bool) (b : Bool) → p t ≡ b → list_any p (take (k + 1) ts) ≡ (list_any p (take k ts) || b)
  any_more p b e = rw (list_any_more p ts k t within, here, e) refl

  more : (x : Settled) (ended stuck completable : Bool) → is_ended t.status ≡ ended → is_stuck s t ≡ stuck → is_completable t ≡ completable → Says x spent (list_all (λ u. is_ended u.status) (take k ts) && ended) (list_all (is_stuck s) (take k ts) && stuck) (list_any is_completable (take k ts) || completable) → Stands s spent (take (k + 1) ts) x
  more x ended stuck completable e1 e2 e3 h = rw (all_more (λ u. is_ended u.status) ended e1, all_more (is_stuck s) stuck e2, any_more is_completable completable e3) h

  pub stands_ended : (x : Settled) → settled_by s t spent ≡ Done → Stands s spent (take k ts) x → Stands s spent (take (k + 1) ts) x
  stands_ended x e h = let f = by Done e in more x true true false f.0 f.1 f.2 (simp (and-true, or-false) h)

  pub stands_first_stuck : settled_by s t spent ≡ Stalled → Stands s spent (take k ts) Done → Stands s spent (take (k + 1) ts) Stalled
  stands_first_stuck e h = let f = by Stalled e in more Stalled false true false f.0 f.1 f.2 (simp (and-false, and-true, or-false) (refl, h.1, h.2))

  pub stands_stuck : (x : Settled) → settled_by s t spent ≡ Stalled → x ≢ Done → x ≢ Running → Stands s spent (take k ts) x → Stands s spent (take (k + 1) ts) x
  stands_stuck x e stays going h = let f = by Stalled e in more x false true false f.0 f.1 f.2 (with_stuck x spent _ _ _ stays going h)

  pub stands_runnable : (x : Settled) → settled_by s t spent ≡ Spent → x ≢ Running → Stands s spent (take k ts) x → Stands s spent (take (k + 1) ts) Spent
  stands_runnable x e going h = let f = by Spent e in more Spent false false false f.0 f.1 f.2 (simp (and-false, or-false) (refl, refl, not_completable x spent _ _ _ going h, f.3))

  -- a thread that goes on settles the verdict
  pub stands_going : settled_by s t spent ≡ Running → Running ≡ verdict spent (list_all (λ u. is_ended u.status) ts) (list_all (is_stuck s) ts) (list_any is_completable ts)
  stands_going e =
      let f = by Running e in
      one_verdict Running spent _ _ _ (list_all_at (λ u. is_ended u.status) ts k t within (rw here f.0), list_all_at (is_stuck s) ts k t within (rw here f.1), still_going (is_completable t) (list_any is_completable ts) spent (λ e. list_any_at is_completable ts k t within (rw here e)) f.2)
