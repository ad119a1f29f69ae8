-- How a run is settled in which nobody can go on, or no step is left.
use Rattle.std.proofs.Common.{◌≡◌, ◌≢◌, ℕ, zero, suc, ◌+◌, ◌<◌, Bool, true, false, not, ◌&&◌, List, [], ◌∷◌, length, get_or, take, Option, Some, None, is_some, slice_get, inl, inr, refl, sym, ap, ap₂, ◌∙◌, subst, arith}
use Rattle.std.specs.Prelude.{◌==◌, ◌||◌, if◌then◌else◌, IfNone, IfSome}
use Rattle.std.specs.List.{list_any, list_all}
use Rattle.std.proofs.lemmas.Bool.{eq-eqb}
use Rattle.std.proofs.lemmas.List.Folds.{list_all_at, list_all_more}
use Rattle.std.proofs.lemmas.Option.{get_or_from_slice_get, slice_get_cases}
use Rattle.flat_machine.specs.rv32_exec.specs.declared.statuses.Status.{Status}
use Rattle.flat_machine.specs.rv32_exec.specs.declared.statuses.Status.TheVariants.{Ready, Trapped, Ended}
use Rattle.flat_rules.specs.flat_state.specs.declared.records.FlatThread.{FlatThread}
use Rattle.flat_rules.specs.flat_state.specs.declared.records.Settled.TheVariants.{Done, Stalled, Spent, Running}
use Rattle.flat_rules.specs.flat_state.specs.State.{FlatState, is_ready, is_ended, is_trapped}
use Rattle.flat_rules.specs.flat_state.specs.Signals.{ended_by, full_receiver, is_held, is_runnable}
use Rattle.flat_rules.specs.flat_state.specs.Call.{has_nothing_to_take, is_completable}
use Rattle.flat_rules.specs.flat_state.specs.Settling.{is_stuck, settled_of}
use Rattle.flat_rules.specs.Readings.{OfThread}
use Rattle.paged_steps.specs.memory_laws.specs.Apart.{over}
use Rattle.page_store.specs.Kept.{Kept, Means}
use Rattle.paged_steps.specs.Knowing.{Knows}
use Rattle.paged_steps.specs.declared.order.Order.{Order}
use Rattle.paged_run.specs.Pagers.{stuck_as}

-- what is said of nothing, and of something
pub none_of : {A : Type 0} (o : Option A) (P : Type 0) → o ≡ None → IfNone o P → P
none_of {A = A} o P is holds = subst (λ (x : Option A). IfNone x P) is holds

pub some_of : {A : Type 0} (o : Option A) (x : A) (P : A → Type 0) → o ≡ Some x → IfSome o P → P x
some_of {A = A} o x P is holds = subst (λ (y : Option A). IfSome y P) is holds

-- no thread can go on, over the memory that the pages and the store are, where all is so that is known of held threads
abbrev pub NobodyRuns : FlatState → Order → Kept → Option (List ℕ) → Type 0
NobodyRuns s order pages held = (m : List ℕ) → Means pages held m → Knows (over s m) order → list_any (is_runnable (over s m)) s.threads ≡ false

-- the thread isn't held, over that memory
abbrev pub IsFree : FlatState → Kept → Option (List ℕ) → ℕ → Type 0
IsFree s pages held n = OfThread s n (λ t. (m : List ℕ) → Means pages held m → is_held (over s m) t ≡ false)

or_false : (a b : Bool) → (a || b) ≡ false → (a ≡ false) × (b ≡ false)
or_false true b e = absurd cc
or_false false b e = (refl, e)

-- ---- whether all have ended

module _ (ts : List FlatThread) (n : ℕ) (within : n < length ts) where
  thread_there : (t : FlatThread) × (slice_get ts n ≡ Some t)
  thread_there = elim (slice_get_cases ts n).1 [
    | inl found ↦ (found.0, found.2)
    | inr past ↦ absurd (let high = past.0 in omega arith)
  ]

  as_told : (b : Bool) → ended_by (slice_get ts n) ≡ b → is_ended (get_or ts n thread_there.0).status ≡ b
  as_told b is = ap (λ (t : FlatThread). is_ended t.status) (get_or_from_slice_get ts n thread_there.0 thread_there.0 thread_there.1) ∙ sym (ap ended_by thread_there.1) ∙ is

  pub one_goes_on : ended_by (slice_get ts n) ≡ false → list_all (λ t. is_ended t.status) ts ≡ false
  one_goes_on is = list_all_at (λ t. is_ended t.status) ts n thread_there.0 within (as_told false is)

  pub one_more_ended : list_all (λ t. is_ended t.status) (take n ts) ≡ true → ended_by (slice_get ts n) ≡ true → list_all (λ t. is_ended t.status) (take (n + 1) ts) ≡ true
  one_more_ended before is = list_all_more (λ t. is_ended t.status) ts n thread_there.0 within ∙ ap₂ (λ (x y : Bool). x && y) before (as_told true is)

-- ---- threads that are stuck

-- a thread that isn't in a call to be completed, and isn't runnable, is stuck
else_stuck : (status : Status) (full waiting : Bool) → (is_trapped status && not (is_trapped status && waiting)) ≡ false → (is_ready status && not full) ≡ false → (is_ended status || ((is_ready status && full) || (is_trapped status && waiting))) ≡ true
else_stuck Ready true waiting completable runnable = refl
else_stuck Ready false waiting completable runnable = absurd cc
else_stuck Trapped full true completable runnable = refl
else_stuck Trapped full false completable runnable = absurd cc
else_stuck (Ended reason) full waiting completable runnable = refl

all_stuck : (s : FlatState) (ts : List FlatThread) → list_any is_completable ts ≡ false → list_any (is_runnable s) ts ≡ false → list_all (is_stuck s) ts ≡ true
all_stuck s [] completable runnable = refl
all_stuck s (t ∷ ts) completable runnable =
    let first = or_false (is_completable t) (list_any is_completable ts) completable in
    let second = or_false (is_runnable s t) (list_any (is_runnable s) ts) runnable in
    rw (else_stuck t.status (is_some (full_receiver s t)) (has_nothing_to_take t) first.0 second.0) (all_stuck s ts first.1 second.1)

pub stuck_so : (s : FlatState) (steps limit : ℕ) → list_any is_completable s.threads ≡ false → list_any (is_runnable s) s.threads ≡ false → settled_of s steps limit ≡ stuck_as s.threads
unfolding settled_of
stuck_so s steps limit completable runnable =
    ap (λ (b : Bool). if list_all (λ t. is_ended t.status) s.threads then Done else (if b then Stalled else (if not (list_any is_completable s.threads) && (steps == limit) then Spent else Running))) (all_stuck s s.threads completable runnable)

pub stuck_over : (ts : List FlatThread) → stuck_as ts ≢ Running
stuck_over ts e = by (list_all (λ t. is_ended t.status) ts) e
  where
    by : (b : Bool) → (if b then Done else Stalled) ≡ Running → ⊥
    by true e = cc
    by false e = cc

-- one that passes no test fails all
not_all : (p : FlatThread → Bool) (ts : List FlatThread) (n : ℕ) (t : FlatThread) → slice_get ts n ≡ Some t → p t ≡ false → list_all p ts ≡ false
not_all p [] n t here fails = absurd (cc)
not_all p (x ∷ ts) zero t here fails = let same : x ≡ t = (cc) in ap (λ (y : FlatThread). p y && list_all p ts) same ∙ ap (λ (b : Bool). b && list_all p ts) fails
not_all p (x ∷ ts) (suc n) t here fails = ap (λ (b : Bool). p x && b) (not_all p ts n t here fails) ∙ never (p x)
  where
    never : (b : Bool) → (b && false) ≡ false
    never true = refl
    never false = refl

free_stuck : (s : FlatState) (t : FlatThread) → t.status ≡ Ready → is_held s t ≡ false → is_stuck s t ≡ false
free_stuck s t ready free =
    ap₂ (λ (st : Status) (h : Bool). is_ended st || (h || (is_trapped st && has_nothing_to_take t))) ready free

pub spent_so : (s : FlatState) (steps limit n : ℕ) (t : FlatThread) → list_any is_completable s.threads ≡ false → slice_get s.threads n ≡ Some t → t.status ≡ Ready → is_held s t ≡ false → steps ≡ limit → settled_of s steps limit ≡ Spent
unfolding settled_of
spent_so s steps limit n t completable here ready free same =
    let ended = not_all (λ t. is_ended t.status) s.threads n t here (ap is_ended ready) in
    let stuck = not_all (is_stuck s) s.threads n t here (free_stuck s t ready free) in
    ap (λ (b : Bool). if b then Done else (if list_all (is_stuck s) s.threads then Stalled else (if not (list_any is_completable s.threads) && (steps == limit) then Spent else Running))) ended
    ∙ ap (λ (b : Bool). if b then Stalled else (if not (list_any is_completable s.threads) && (steps == limit) then Spent else Running)) stuck
    ∙ ap₂ (λ (b d : Bool). if not b && d then Spent else Running) completable (eq-eqb steps limit same)
