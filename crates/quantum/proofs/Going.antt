-- Steps up to the first pause.
use Rattle.std.proofs.Common.{◌≡◌, ℕ, zero, suc, ◌+◌, ◌<◌, ◌≤◌, Bool, true, false, ◌||◌, List, [], ◌∷◌, Option, Some, None, refl, ap, ap₂, sym, ◌∙◌, subst, inl, inr, arith}
use Rattle.std.specs.Prelude.{if◌then◌else◌, nat_le}
use Rattle.std.specs.Option.{option_or}
use Rattle.std.proofs.lemmas.Bool.{cases_lt, leb-true, leb-false}
use Rattle.std.proofs.lemmas.Option.{same_Some}
use Rattle.rv32_exec.specs.declared.contexts.Context.{Context}
use Rattle.rv32_exec.specs.declared.statuses.Status.TheVariants.{Ready}
use Rattle.rv32_exec.specs.declared.steps.Stepped.{Stepped}
use Rattle.rv32_exec.specs.declared.steps.Stepped.TheVariants as steps
use Rattle.rv32_exec.specs.Pages.{Page}
use Rattle.rv32_exec.specs.Steps.{after_step, OnMiss}
use Rattle.page_views.specs.Views.{has_message, pages_of_views, Table, View}
use Rattle.quantum.specs.declared.ahead.Went.{Went}
use Rattle.quantum.specs.declared.paused.Paused.{Paused}
use Rattle.quantum.specs.declared.paused.Paused.TheVariants as pauses
use Rattle.quantum.specs.Ahead.{Ahead, ahead_over, at_limit, further, one_ahead, outcome, pause_after, pause_at, pause_before, pause_if_missed, signals_next, standing, views_with, went_by, IsRun}
use Rattle.quantum.specs.LocalRun.{status_by}
use Rattle.quantum.specs.Made.{IsMade}
use Rattle.quantum.proofs.Making.{made_ahead, made_paused, quiet_where, ready_where}

further-suc : (k : ℕ) (a : Ahead) → further (suc k) a ≡ one_ahead (further k a)
further-suc zero a = refl
further-suc (suc k) a = further-suc k (one_ahead a)

further_more : (k : ℕ) (a : Ahead) → further (k + 1) a ≡ one_ahead (further k a)
further_more k a = ap (λ (n : ℕ). further n a) one_up ∙ further-suc k a
  where
    one_up : k + 1 ≡ suc k
    one_up = omega arith

-- steps were taken, and no pause was met yet
pub record Going (limit : ℕ) (before now : Ahead) : Type 0 where
  pub count : ℕ
  pub is : now ≡ further count before
  pub went_on : (k : ℕ) → k < count → pause_at limit (further k before) ≡ None
  pub free : now.paused ≡ None

below_limit : (limit steps : ℕ) → steps < limit → at_limit limit steps ≡ None
below_limit limit steps below = by (nat_le limit steps) refl
  where
    by : (b : Bool) → nat_le limit steps ≡ b → (if b then Some pauses.Limit else None) ≡ None
    by true e = absurd (omega (arith, leb-true limit steps e, below))
    by false e = refl

at_or_past : (limit steps : ℕ) → limit ≤ steps → at_limit limit steps ≡ Some pauses.Limit
at_or_past limit steps past = by (nat_le limit steps) refl
  where
    by : (b : Bool) → nat_le limit steps ≡ b → (if b then Some pauses.Limit else None) ≡ Some pauses.Limit
    by true e = refl
    by false e = absurd (omega (arith, leb-false limit steps e, past))

-- before the limit only a step can bring a pause
only_before : (limit : ℕ) (a : Ahead) → standing a.paused ≡ None → a.steps < limit → pause_at limit a ≡ pause_before a
only_before limit a free below = ap₂ (λ (x y : Option Paused). option_or x (option_or y (pause_before a))) free (below_limit limit a.steps below)

stands_after : (answer : Stepped) → standing (pause_after answer) ≡ pause_after answer
stands_after steps.Next = refl
stands_after steps.Call = refl
stands_after (steps.Stop reason) = refl
stands_after (steps.Miss va access) = refl

module _ (limit : ℕ) (before a : Ahead) (going : Going limit before a) (below : a.steps < limit) where
  pauses_so : pause_at limit (further going.count before) ≡ pause_before a
  pauses_so = ap (pause_at limit) (sym going.is) ∙ only_before limit a (ap standing going.free) below

  further_went : pause_before a ≡ None → (k : ℕ) → k < going.count + 1 → pause_at limit (further k before) ≡ None
  further_went none k under = elim (cases_lt k going.count) [
    | inl earlier ↦ going.went_on k earlier
    | inr last ↦
        let same : going.count ≡ k = omega (arith, last, under) in
        subst (λ (j : ℕ). pause_at limit (further j before) ≡ None) same (pauses_so ∙ none)
  ]

  one_on : one_ahead a ≡ further (going.count + 1) before
  one_on = ap one_ahead going.is ∙ sym (further_more going.count before)

  going_on : pause_before a ≡ None → (one_ahead a).paused ≡ None → Going limit before (one_ahead a)
  going_on none free = record { count = going.count + 1; is = one_on; went_on = further_went none; free = free }

  -- a pause before the next step, and one behind it
  run_before : (p : Paused) → pause_before a ≡ Some p → IsRun limit before (record a { paused = Some p }) p
  run_before p is = record {
    count = going.count;
    took = ap (λ (b : Ahead). record b { paused = Some p }) going.is;
    went_on = going.went_on;
    stands = pauses_so ∙ is;
  }

  run_behind : (p : Paused) → pause_before a ≡ None → (one_ahead a).paused ≡ Some p → IsRun limit before (record (one_ahead a) { paused = Some p }) p
  run_behind p none is = record {
    count = going.count + 1;
    took = ap (λ (b : Ahead). record b { paused = Some p }) one_on;
    went_on = further_went none;
    stands =
        ap (pause_at limit) (sym one_on)
        ∙ ap (λ (o : Option Paused). option_or o (option_or (at_limit limit (one_ahead a).steps) (pause_before (one_ahead a)))) (stands_after (outcome a).answer ∙ is);
  }

-- a step changes no view's flags
pub message_stays : (vs : List View) (ps : List Page) → has_message (views_with vs ps) ≡ has_message vs
message_stays [] ps = refl
message_stays (v ∷ vs) [] = refl
message_stays (v ∷ vs) (p ∷ ps) = ap (λ (b : Bool). v.flags.m || b) (message_stays vs ps)

-- a step was taken over the views
pub record Took (c : Context) (t : Table) (d : Context) (u : Table) (stepped : Stepped) : Type 0 where
  pub context : d ≡ (after_step c (pages_of_views t.views)).context
  pub views : u ≡ record t { views = views_with t.views (after_step c (pages_of_views t.views)).pages }
  pub answer : stepped ≡ (after_step c (pages_of_views t.views)).answer
  pub missed : OnMiss stepped ((d ≡ c) × (u ≡ t))

-- what a look before the next step, and the step, make of steps that went on so far
module _ (limit : ℕ) (before : Ahead) (first c : Context) (t : Table) (n : ℕ) (going : Going limit before (ahead_over first c t n None)) (below : n < limit) where
  abbrev now : Ahead
  now = ahead_over first c t n None

  pub run_signal : signals_next now ≡ true → IsRun limit before (record now { paused = Some pauses.Signal }) pauses.Signal
  run_signal signals = run_before limit before now going below pauses.Signal (ap (λ (b : Bool). if b then Some pauses.Signal else pause_if_missed (outcome now).answer) signals)

  module _ (d : Context) (u : Table) (stepped : Stepped) (took : Took c t d u stepped) (quiet : signals_next now ≡ false) where
    paused_before : pause_before now ≡ pause_if_missed stepped
    paused_before = ap₂ (λ (b : Bool) (s : Stepped). if b then Some pauses.Signal else pause_if_missed s) quiet (sym took.answer)

    paused_behind : (one_ahead now).paused ≡ pause_after stepped
    paused_behind = ap pause_after (sym took.answer)

    one_is : (o : Option Paused) → record (one_ahead now) { paused = o } ≡ ahead_over first d u (n + 1) o
    one_is o = ap₂ (λ (e : Context) (w : Table). ahead_over first e w (n + 1) o) (sym took.context) (sym took.views)

    pub goes_on : stepped ≡ steps.Next → Going limit before (ahead_over first d u (n + 1) None)
    goes_on next =
        let free : (one_ahead now).paused ≡ None = paused_behind ∙ ap pause_after next in
        subst (Going limit before) (ap (λ (o : Option Paused). record (one_ahead now) { paused = o }) free ∙ one_is None)
        (going_on limit before now going below (paused_before ∙ ap pause_if_missed next) free)

    -- the last step, by its answer
    run_taken : (p : Paused) → pause_if_missed stepped ≡ None → pause_after stepped ≡ Some p → IsRun limit before (ahead_over first d u (n + 1) (Some p)) p
    run_taken p none is = subst (λ (a : Ahead). IsRun limit before a p) (one_is (Some p)) (run_behind limit before now going below p (paused_before ∙ none) (paused_behind ∙ is))

    run_missed : (p : Paused) → pause_if_missed stepped ≡ Some p → d ≡ c → u ≡ t → IsRun limit before (ahead_over first d u n (Some p)) p
    run_missed p is same-context same-views =
        subst (λ (a : Ahead). IsRun limit before a p) (ap₂ (λ (e : Context) (w : Table). ahead_over first e w n (Some p)) (sym same-context) (sym same-views))
        (run_before limit before now going below p (paused_before ∙ is))

    abbrev IsRunTo : Went → Type 0
    IsRunTo w = IsRun limit before (ahead_over first d u w.steps (Some w.paused)) w.paused

    run_answering : (s : Stepped) → stepped ≡ s → OnMiss s ((d ≡ c) × (u ≡ t)) → (w : Went) → went_by n s ≡ Some w → IsRunTo w
    run_answering steps.Next e missed w is = absurd (cc)
    run_answering steps.Call e missed w is = subst IsRunTo (same_Some _ w is) (run_taken pauses.Call (ap pause_if_missed e) (ap pause_after e))
    run_answering (steps.Stop reason) e missed w is = subst IsRunTo (same_Some _ w is) (run_taken (pauses.Stopped reason) (ap pause_if_missed e) (ap pause_after e))
    run_answering (steps.Miss va access) e missed w is = subst IsRunTo (same_Some _ w is) (run_missed (pauses.Miss va access) (ap pause_if_missed e) missed.0 missed.1)

    pub run_by : (w : Went) → Some w ≡ went_by n stepped → IsRunTo w
    run_by w is = run_answering stepped refl took.missed w (sym is)

pub run_limit : (limit : ℕ) (before a : Ahead) → Going limit before a → limit ≤ a.steps → IsRun limit before (record a { paused = Some pauses.Limit }) pauses.Limit
run_limit limit before a going past = record {
  count = going.count;
  took = ap (λ (b : Ahead). record b { paused = Some pauses.Limit }) going.is;
  went_on = going.went_on;
  stands =
      ap (pause_at limit) (sym going.is)
      ∙ ap₂ (λ (x y : Option Paused). option_or x (option_or y (pause_before a))) (ap standing going.free) (at_or_past limit a.steps past);
}

-- ---- what the pause before a run has to do with it

stands_itself : (o : Option Paused) (p : Paused) → standing o ≡ Some p → o ≡ Some p
stands_itself None p e = absurd (cc)
stands_itself (Some pauses.Call) p e = e
stands_itself (Some (pauses.Stopped reason)) p e = e
stands_itself (Some pauses.Limit) p e = absurd (cc)
stands_itself (Some (pauses.Miss va access)) p e = absurd (cc)
stands_itself (Some pauses.Signal) p e = absurd (cc)

-- a pause that doesn't stand says nothing of the steps
forgotten : (k : ℕ) (a : Ahead) (o : Option Paused) → record (further k (record a { paused = None })) { paused = o } ≡ record (further k a) { paused = o }
forgotten zero a o = refl
forgotten (suc k) a o = refl

pauses_alike : (limit k : ℕ) (a : Ahead) → standing a.paused ≡ None → pause_at limit (further k (record a { paused = None })) ≡ pause_at limit (further k a)
pauses_alike limit zero a free = ap (λ (o : Option Paused). option_or o (option_or (at_limit limit a.steps) (pause_before a))) (sym free)
pauses_alike limit (suc k) a free = refl

pub run_anew : (limit : ℕ) (a after : Ahead) (p : Paused) → standing a.paused ≡ None → IsRun limit (record a { paused = None }) after p → IsRun limit a after p
run_anew limit a after p free ran = record {
  count = ran.count;
  took = ran.took ∙ forgotten ran.count a (Some p);
  went_on = λ k below. sym (pauses_alike limit k a free) ∙ ran.went_on k below;
  stands = sym (pauses_alike limit ran.count a free) ∙ ran.stands;
}

-- ---- the pause names the status

missed_status : (answer : Stepped) (p : Paused) → pause_if_missed answer ≡ Some p → status_by (Some p) ≡ Ready
missed_status steps.Next p e = absurd (cc)
missed_status steps.Call p e = absurd (cc)
missed_status (steps.Stop reason) p e = absurd (cc)
missed_status (steps.Miss va access) p e = ap status_by (sym e)

before_status : (a : Ahead) (p : Paused) → pause_before a ≡ Some p → status_by (Some p) ≡ Ready
before_status a p e = by (signals_next a) e
  where
    by : (b : Bool) → (if b then Some pauses.Signal else pause_if_missed (outcome a).answer) ≡ Some p → status_by (Some p) ≡ Ready
    by true e = ap status_by (sym e)
    by false e = missed_status (outcome a).answer p e

pause_status : (limit : ℕ) (a : Ahead) (p : Paused) → pause_at limit a ≡ Some p → status_by (Some p) ≡ status_by a.paused
pause_status limit a p e = by (standing a.paused) refl e
  where
    at : (o : Option Paused) → at_limit limit a.steps ≡ o → option_or o (pause_before a) ≡ Some p → status_by (Some p) ≡ Ready
    at None none e = before_status a p e
    at (Some q) is e = by_limit (nat_le limit a.steps) is e
      where
        by_limit : (b : Bool) → (if b then Some pauses.Limit else None) ≡ Some q → Some q ≡ Some p → status_by (Some p) ≡ Ready
        by_limit true is e = ap status_by (sym e ∙ sym is)
        by_limit false is e = absurd (cc)

    by : (o : Option Paused) → standing a.paused ≡ o → option_or o (option_or (at_limit limit a.steps) (pause_before a)) ≡ Some p → status_by (Some p) ≡ status_by a.paused
    by (Some q) is e = ap status_by (sym (stands_itself a.paused p (is ∙ e)))
    by None is e = at (at_limit limit a.steps) refl e ∙ sym (ready_where a.paused is)

-- ---- a run is made of its steps

neither : (x y : Option Paused) → option_or x y ≡ None → (x ≡ None) × (y ≡ None)
neither None y none = (refl, none)
neither (Some p) y none = absurd (cc)

made_further : (limit k : ℕ) (a : Ahead) → IsMade a → ((j : ℕ) → j < k → pause_at limit (further j a) ≡ None) → IsMade (further k a)
made_further limit zero a made went_on = made
made_further limit (suc k) a made went_on =
    let here = neither (standing a.paused) (option_or (at_limit limit a.steps) (pause_before a)) (went_on 0 (omega arith)) in
    let quiet = quiet_where a (neither (at_limit limit a.steps) (pause_before a) here.1).1 in
    made_further limit k (one_ahead a) (made_ahead a made here.0 quiet.0 quiet.1) (λ j below. went_on (suc j) (omega (arith, below)))

pub made_run : (limit : ℕ) (before after : Ahead) (p : Paused) → IsMade before → IsRun limit before after p → IsMade after
made_run limit before after p made ran =
    subst IsMade (sym ran.took) (made_paused (further ran.count before) (Some p) (made_further limit ran.count before made ran.went_on) (pause_status limit (further ran.count before) p ran.stands))
