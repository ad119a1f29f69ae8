-- Which candidate is the first.
use Rattle.std.proofs.Common.{◌≡◌, ℕ, suc, ◌+◌, ◌<◌, Bool, true, false, not, ◌&&◌, cond, List, [], ◌∷◌, length, get_or, Option, Some, None, is_some, slice_get, refl, sym, ap, ap₂, ◌∙◌, subst, ◌⊎◌, inl, inr, arith}
use Rattle.std.specs.Prelude.{count_by, slice_set, ◌||◌, IfSome, IfNone}
use Rattle.std.specs.List.{list_any}
use Rattle.std.proofs.lemmas.Bool.{cases_eq, cases_lt}
use Rattle.std.proofs.lemmas.List.Sums.{sum_by-set}
use Rattle.std.proofs.lemmas.Option.{get_or_from_slice_get, slice_get-get_or, slice_get_within}
use Rattle.flat_state.proofs.Places.{get-set_other, get-set_same}
use Rattle.flat_state.specs.declared.records.FlatThread.{FlatThread}
use Rattle.flat_state.specs.State.{FlatState, is_ready}
use Rattle.flat_state.specs.Signals.{full_receiver, is_held, is_runnable}
use Rattle.rv32_exec.specs.declared.statuses.Status.{Status}
use Rattle.rv32_exec.specs.declared.statuses.Status.TheVariants.{Ready, Trapped, Ended}
use Rattle.paged_steps.specs.Orders.{AllHeld}

-- what holds of two candidates holds of the one that is kept
pub keeps_some : {X : Type 0} (P : X → Type 0) (best other result : Option X) → (result ≡ best) ⊎ (result ≡ other) → IfSome best P → IfSome other P → IfSome result P
keeps_some P best other result (inl same) first second = subst (λ o. IfSome o P) (sym same) first
keeps_some P best other result (inr same) first second = subst (λ o. IfSome o P) (sym same) second

both_none : {X : Type 0} (best other : Option X) (A B : Type 0) → best ≡ None → other ≡ None → IfNone best A → IfNone other B → A × B
both_none best other A B first second a b = (subst (λ o. IfNone o A) first a, subst (λ o. IfNone o B) second b)

pub keeps_none : {X : Type 0} (best other result : Option X) (A B : Type 0) → IfNone result ((best ≡ None) × (other ≡ None)) → IfNone best A → IfNone other B → IfNone result (A × B)
keeps_none best other (Some x) A B none first second = tt
keeps_none best other None A B none first second = both_none best other A B none.0 none.1 first second

pub then_none : {X : Type 0} (o : Option X) (A B : Type 0) → (A → B) → IfNone o A → IfNone o B
then_none (Some x) A B f a = tt
then_none None A B f a = f a

-- one thread more
pub all_more : (tables : FlatState) (held : List Bool) (i : ℕ) → AllHeld tables held i → ((t : FlatThread) → slice_get tables.threads i ≡ Some t → is_ready t.status ≡ true → slice_get held i ≡ Some true) → AllHeld tables held (i + 1)
all_more tables held i before last n t below here ready = elim (cases_lt n i) [
  | inl earlier ↦ before n t earlier here ready
  | inr late ↦
      let same : n ≡ i = omega arith in
      subst (λ (k : ℕ). slice_get held k ≡ Some true) (sym same) (last t (subst (λ (k : ℕ). slice_get tables.threads k ≡ Some t) same here) ready)
]

-- ---- who was found held

-- one fewer is left
pub fewer_left : (held : List Bool) (n : ℕ) → slice_get held n ≡ Some false → count_by not (slice_set held n true) < count_by not held
fewer_left held n here =
    let f : Bool → ℕ = λ b. cond (not b) 1 0 in
    let sum = sum_by-set f held n true false (slice_get_within held n false here) in
    let was : f (get_or held n false) ≡ 1 = ap f (get_or_from_slice_get held n false false here) in
    omega (arith, sum, was)

-- one note more, and those that there were
pub noted_too : (notes : List Bool) (n : ℕ) → n < length notes → slice_get (slice_set notes n true) n ≡ Some true
noted_too notes n low = get-set_same notes n true (get_or notes n true) (slice_get-get_or notes n true low)

pub noted_more : (notes : List Bool) (n k : ℕ) → slice_get notes k ≡ Some true → slice_get (slice_set notes n true) k ≡ Some true
noted_more notes n k was = elim (cases_eq k n) [
  | inl same ↦ subst (λ (j : ℕ). slice_get (slice_set notes n true) j ≡ Some true) (sym same) (noted_too notes n (let low = slice_get_within notes k true was in omega (arith, low, same)))
  | inr apart ↦ get-set_other notes n k true apart ∙ was
]

pub ready_is : (st : Status) → is_ready st ≡ true → st ≡ Ready
ready_is Ready e = refl
ready_is Trapped e = absurd (cc)
ready_is (Ended reason) e = absurd (cc)

-- where each ready thread is held, nobody can run
not_runs : (a b : Bool) → (a ≡ true → (a && b) ≡ true) → (a && not b) ≡ false
not_runs true true h = refl
not_runs true false h = absurd (let e = h refl in cc)
not_runs false b h = refl

pub none_run : (s : FlatState) (ts : List FlatThread) → ((n : ℕ) (t : FlatThread) → slice_get ts n ≡ Some t → is_ready t.status ≡ true → is_held s t ≡ true) → list_any (is_runnable s) ts ≡ false
none_run s [] held = refl
none_run s (t ∷ ts) held =
    ap₂ (λ (a b : Bool). a || b) (not_runs (is_ready t.status) (is_some (full_receiver s t)) (λ ready. held 0 t refl ready)) (none_run s ts (λ n u here. held (suc n) u here))
