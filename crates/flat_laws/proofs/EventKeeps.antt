-- What an event keeps.
use Rattle.std.proofs.Common.{◌≡◌, ℕ, Bool, true, false, not, cond, List, [], ◌∷◌, ◌++◌, filter, set, Option, Some, None, is_some, slice_get, refl, ap, ap₂, sym, ◌∙◌, subst, inl, inr}
use Rattle.std.specs.Prelude.{if◌then◌else◌, ◌==◌, ◌&&◌, unwrap_or}
use Rattle.std.specs.List.{find}
use Rattle.std.specs.Option.{option_map}
use Rattle.std.proofs.lemmas.Bool.{and_parts, cases_eq, eqb-true}
use Rattle.std.proofs.lemmas.Option.{same_Some}
use Rattle.cache_ident.specs.declared.names.KernelNo.{KernelNo}
use Rattle.cache_ident.specs.declared.names.SpaceNo.{SpaceNo}
use Rattle.phys_groups.specs.declared.rows.Row.{Row}
use Rattle.phys_groups.specs.Translation.{is_row_of, row_of, without}
use Rattle.flat_state.specs.fault_forward.specs.declared.effects.Effect.{Effect}
use Rattle.flat_state.specs.fault_forward.specs.declared.effects.Effect.TheVariants as effects
use Rattle.flat_state.specs.fault_forward.specs.Calls.{Completion, completion_of}
use Rattle.flat_state.specs.declared.events.Decl.{Decl}
use Rattle.flat_state.specs.declared.events.Decl.TheVariants as decls
use Rattle.flat_state.specs.declared.events.Event.{Event}
use Rattle.flat_state.specs.declared.events.Event.TheVariants.{Declare, Step, Complete}
use Rattle.flat_state.specs.declared.records.FlatKernel.{FlatKernel}
use Rattle.flat_state.specs.declared.records.FlatThread.{FlatThread}
use Rattle.flat_state.specs.State.{FlatState, with_thread}
use Rattle.flat_state.specs.Declaration.{broken_rule, declared, with_right, new_row}
use Rattle.flat_state.specs.Call.{answered, refusal, made, mapping, rule_of_mapping, mapped, unmapped, spawning, spawned, is_first, granting, rule_of_granting, granted, completed_so, complete_if, completion_for, after_completion, is_completable}
use Rattle.flat_state.specs.Events.{declared_unless, applied}
use Rattle.flat_state.proofs.Finding.{find-contains, find-passes}
use Rattle.flat_state.proofs.Places.{get-append, get-set_same, get-set_other}
use Rattle.flat_state.proofs.FormedParts.{KeepsRow, KeepSpaces, keeps_all, keeps_on, set_keeps}
use Rattle.flat_laws.specs.Rows.{IsButForBits}
use Rattle.flat_laws.proofs.Members.{Contains-filter}
use Rattle.flat_laws.proofs.StepSame.{IsSameBut, step_same, found_row}

-- a row that is in both lists for a page is the same but for its bits
abbrev pub KeepRows : List Row → List Row → Type 0
KeepRows before after = (space : SpaceNo) (vpn : ℕ) (row now : Row) → row_of before space vpn ≡ Some row → row_of after space vpn ≡ Some now → IsButForBits row now

-- each kernel is there with its limits, each space with its kernel, each thread with its space
pub record Keeps (s u : FlatState) : Type 0 where
  pub kernels : (n : ℕ) (k : FlatKernel) → slice_get s.kernels n ≡ Some k → (l : FlatKernel) × (slice_get u.kernels n ≡ Some l) × (l.limits ≡ k.limits)
  pub spaces : (n : ℕ) (kernel : KernelNo) → slice_get s.spaces n ≡ Some kernel → slice_get u.spaces n ≡ Some kernel
  pub threads : KeepSpaces s.threads u.threads
  pub rows : KeepRows s.rows u.rows

one_row : (row now : Row) → row ≡ now → IsButForBits row now
one_row row now same = subst (IsButForBits row) same refl

rows_stay : (rows : List Row) → KeepRows rows rows
rows_stay rows space vpn row now here there = one_row row now (same_Some row now (sym here ∙ there))

pub keeps_itself : (s : FlatState) → Keeps s s
keeps_itself s = record { kernels = λ n k there. (k, there, refl); spaces = λ n kernel there. there; threads = keeps_all s.threads; rows = rows_stay s.rows }

-- what was found is still found in front of others
find-append : {X : Type 0} (p : X → Bool) (xs ys : List X) (x : X) → find p xs ≡ Some x → find p (xs ++ ys) ≡ Some x
find-append p [] ys x e = absurd (cc)
find-append {X} p (z ∷ xs) ys x e = by (λ later. find-append p xs ys x later) (p z) e
  where
    by : (find p xs ≡ Some x → find p (xs ++ ys) ≡ Some x) → (b : Bool) → cond b (Some z) (find p xs) ≡ Some x → cond b (Some z) (find p (xs ++ ys)) ≡ Some x
    by rest true e = e
    by rest false e = rest e

rows_pushed : (rows : List Row) (new : Row) → KeepRows rows (rows ++ new ∷ [])
rows_pushed rows new space vpn row now here there = one_row row now (same_Some row now (sym (find-append (is_row_of space vpn) rows (new ∷ []) row here) ∙ there))

-- what is found before and after a filter that takes all or nothing of what is looked for
found_in_filter : {X : Type 0} (p q : X → Bool) → ((x y : X) → p x ≡ true → p y ≡ true → q x ≡ q y) → (xs : List X) (x y : X) → find p xs ≡ Some x → find p (filter q xs) ≡ Some y → x ≡ y
found_in_filter p q alike [] x y here there = absurd (cc)
found_in_filter {X} p q alike (z ∷ xs) x y here there = by (λ here there. found_in_filter p q alike xs x y here there) (p z) (q z) refl refl here there
  where
    by : (find p xs ≡ Some x → find p (filter q xs) ≡ Some y → x ≡ y) → (b c : Bool) → p z ≡ b → q z ≡ c → cond b (Some z) (find p xs) ≡ Some x → find p (cond c (z ∷ filter q xs) (filter q xs)) ≡ Some y → x ≡ y
    by rest true true is kept here there =
        let found : Some z ≡ Some y = sym (ap (λ b. cond b (Some z) (find p (filter q xs))) is) ∙ there in
        sym (same_Some z x here) ∙ same_Some z y found
    by rest true false is gone here there =
        let kept = (Contains-filter q xs y (find-contains p (filter q xs) y there)).1 in
        let clash : true ≡ false = sym kept ∙ (sym (alike z y is (find-passes p (filter q xs) y there)) ∙ gone) in
        absurd (cc)
    by rest false true is kept here there = rest here (sym (ap (λ b. cond b (Some z) (find p (filter q xs))) is) ∙ there)
    by rest false false is gone here there = rest here there

same_pages : (space other : SpaceNo) (vpn page : ℕ) (a b : Row) → is_row_of space vpn a ≡ true → is_row_of space vpn b ≡ true → not (is_row_of other page a) ≡ not (is_row_of other page b)
same_pages space other vpn page a b first second =
    let one = and_parts (a.space.0 == space.0) (a.vpn.0 == vpn) first in
    let two = and_parts (b.space.0 == space.0) (b.vpn.0 == vpn) second in
    ap₂ (λ (m n : ℕ). not ((m == other.0) && (n == page)))
    (eqb-true a.space.0 space.0 one.0 ∙ sym (eqb-true b.space.0 space.0 two.0))
    (eqb-true a.vpn.0 vpn one.1 ∙ sym (eqb-true b.vpn.0 vpn two.1))

rows_without : (rows : List Row) (other : SpaceNo) (page : ℕ) → KeepRows rows (without other page rows)
rows_without rows other page space vpn row now here there =
    one_row row now (found_in_filter (is_row_of space vpn) (λ r. not (is_row_of other page r)) (λ a b first second. same_pages space other vpn page a b first second) rows row now here there)

-- a thread in the place of one of its space
in_place : (s u : FlatState) (n : ℕ) (t v : FlatThread) → Keeps s u → slice_get u.threads n ≡ Some t → v.space ≡ t.space → Keeps s (with_thread u n v)
in_place s u n t v keeps here same = record {
  kernels = keeps.kernels;
  spaces = keeps.spaces;
  threads = keeps_on s.threads u.threads (set u.threads n v) keeps.threads (set_keeps u.spaces u.threads n t v here same);
  rows = keeps.rows;
}

limits_stay : (kernels : List FlatKernel) (o : Option FlatKernel) (kernel group : ℕ) (right : Bool × Bool) → slice_get kernels kernel ≡ o → (n : ℕ) (k : FlatKernel) → slice_get kernels n ≡ Some k → (l : FlatKernel) × (slice_get (with_right kernels o kernel group right) n ≡ Some l) × (l.limits ≡ k.limits)
limits_stay kernels None kernel group right here n k there = (k, there, refl)
limits_stay kernels (Some j) kernel group right here n k there = elim (cases_eq n kernel) [
  | inl same ↦
      let u : FlatKernel = record j { rights = set j.rights group right } in
      let one : j ≡ k = same_Some j k (sym here ∙ ap (slice_get kernels) (sym same) ∙ there) in
      (u, subst (λ (m : ℕ). slice_get (set kernels kernel u) m ≡ Some u) (sym same) (get-set_same kernels kernel u j here), ap (λ (x : FlatKernel). x.limits) one)
  | inr other ↦ (k, get-set_other kernels kernel n (record j { rights = set j.rights group right }) other ∙ there, refl)
]

pub declared_keeps : (s : FlatState) (d : Decl) → Keeps s (declared s d)
unfolding declared
declared_keeps s (decls.Machine machine) = record { kernels = (keeps_itself s).kernels; spaces = (keeps_itself s).spaces; threads = keeps_all s.threads; rows = rows_stay s.rows }
declared_keeps s (decls.Kernel number limits) = record { kernels = λ n k there. (k, get-append s.kernels _ n k there, refl); spaces = (keeps_itself s).spaces; threads = keeps_all s.threads; rows = rows_stay s.rows }
declared_keeps s (decls.Right kernel group read write) = record {
  kernels = limits_stay s.kernels (slice_get s.kernels kernel.0) kernel.0 group (read, write) refl;
  spaces = (keeps_itself s).spaces;
  threads = keeps_all s.threads;
  rows = rows_stay s.rows;
}
declared_keeps s (decls.Space number kernel) = record { kernels = (keeps_itself s).kernels; spaces = λ n owner there. get-append s.spaces _ n owner there; threads = keeps_all s.threads; rows = rows_stay s.rows }
declared_keeps s (decls.Thread number space pc priority a0 a1) = record {
  kernels = (keeps_itself s).kernels;
  spaces = (keeps_itself s).spaces;
  threads = record { kept = λ n t there. (t, get-append s.threads _ n t there, refl) };
  rows = rows_stay s.rows;
}
declared_keeps s (decls.Map space vpn frame flags receiver) = record { kernels = (keeps_itself s).kernels; spaces = (keeps_itself s).spaces; threads = keeps_all s.threads; rows = rows_pushed s.rows (new_row space vpn frame flags receiver) }
declared_keeps s (decls.Word frame offset value) = record { kernels = (keeps_itself s).kernels; spaces = (keeps_itself s).spaces; threads = keeps_all s.threads; rows = rows_stay s.rows }

module _ (s : FlatState) (n : ℕ) (t : FlatThread) (here : slice_get s.threads n ≡ Some t) where
  goes_on : (u : FlatThread) → u.space ≡ t.space → Keeps s (with_thread s n u)
  goes_on u same = in_place s s n t u (keeps_itself s) here same

  made_keeps : (d : Decl) (answer : ℕ) (rule : Option ℕ) → slice_get (declared s d).threads n ≡ Some t → Keeps s (made s n t d answer rule)
  made_keeps d answer None there = in_place s (declared s d) n t (answered t answer) (declared_keeps s d) there refl
  made_keeps d answer (Some rule) there = goes_on (answered t (refusal rule)) refl

  mapped_keeps : (vpn frame bits receiver flags : ℕ) → Keeps s (mapped s n t (mapping t vpn frame bits receiver) flags)
  unfolding declared
  mapped_keeps vpn frame bits receiver flags = made_keeps (mapping t vpn frame bits receiver) 0 (rule_of_mapping s (mapping t vpn frame bits receiver) flags) here

  unmapped_keeps : (vpn : ℕ) → Keeps s (unmapped s n t vpn)
  unmapped_keeps vpn = by (is_some (row_of s.rows t.space vpn))
    where
      gone : Keeps s (record s { rows = without t.space vpn s.rows })
      gone = record { kernels = (keeps_itself s).kernels; spaces = (keeps_itself s).spaces; threads = keeps_all s.threads; rows = rows_without s.rows t.space vpn }

      by : (b : Bool) → Keeps s (if b then with_thread (record s { rows = without t.space vpn s.rows }) n (answered t 0) else with_thread s n (answered t (refusal 1)))
      by true = in_place s (record s { rows = without t.space vpn s.rows }) n t (answered t 0) gone here refl
      by false = goes_on (answered t (refusal 1)) refl

  spawned_keeps : (pc a0 priority : ℕ) → Keeps s (spawned s n t (spawning s t pc a0 priority))
  unfolding declared
  spawned_keeps pc a0 priority = made_keeps (spawning s t pc a0 priority) _ (broken_rule s (spawning s t pc a0 priority)) (get-append s.threads _ n t here)

  granted_keeps : (kernel group bits : ℕ) → Keeps s (granted s n t (granting kernel group bits) bits)
  unfolding declared
  granted_keeps kernel group bits = by (is_first (slice_get s.spaces t.space.0))
    where
      by : (b : Bool) → Keeps s (if b then made s n t (granting kernel group bits) 0 (rule_of_granting s (granting kernel group bits) bits) else with_thread s n (answered t (refusal 1)))
      by true = made_keeps (granting kernel group bits) 0 (rule_of_granting s (granting kernel group bits) bits) here
      by false = goes_on (answered t (refusal 1)) refl

  completed_keeps : (c : Completion) (effect : Effect) → Keeps s (completed_so s n t c effect)
  completed_keeps c effects.Ready = goes_on _ refl
  completed_keeps c (effects.Put byte) = goes_on _ refl
  completed_keeps c (effects.Decimal number) = goes_on _ refl
  completed_keeps c (effects.End reason) = goes_on _ refl
  completed_keeps c (effects.Map vpn frame flags receiver) = mapped_keeps vpn frame flags receiver flags
  completed_keeps c (effects.Unmap vpn) = unmapped_keeps vpn
  completed_keeps c (effects.Spawn pc a0 priority) = spawned_keeps pc a0 priority
  completed_keeps c (effects.Grant kernel group bits) = granted_keeps kernel group bits

-- a step keeps all that its bits leave
but_for_bits : (f : Row → Row) → KeepsRow f → (row : Row) → IsButForBits row (f row)
but_for_bits f keeps row = λ i. record {
  space = keeps.space row i;
  vpn = keeps.vpn row i;
  frame = keeps.frame row i;
  flags = keeps.flags row i;
  receiver = keeps.receiver row i;
  referenced = (f row).referenced;
  modified = (f row).modified;
}

step_keeps : (s u : FlatState) → IsSameBut s u → Keeps s u
step_keeps s u same = record {
  kernels = λ n k there. (k, ap (λ ks. slice_get ks n) same.kernels ∙ there, refl);
  spaces = λ n kernel there. ap (λ sp. slice_get sp n) same.spaces ∙ there;
  threads = record { kept = λ n t there. in_space (slice_get u.threads n) t.space (same.threads.at n ∙ ap (option_map (λ (x : FlatThread). x.space)) there) };
  rows = λ space vpn row now here there.
      let found : Some (same.mark row) ≡ Some now = sym (found_row s u same space vpn ∙ ap (option_map same.mark) here) ∙ there in
      subst (IsButForBits row) (same_Some (same.mark row) now found) (but_for_bits same.mark same.keeps row);
}
  where
    in_space : (o : Option FlatThread) (space : SpaceNo) → option_map (λ t. t.space) o ≡ Some space → (v : FlatThread) × (o ≡ Some v) × (v.space ≡ space)
    in_space None space e = absurd (cc)
    in_space (Some v) space e = (v, refl, same_Some v.space space e)

pub event_keeps : (s : FlatState) (e : Event) → Keeps s (applied s e)
unfolding after_completion
event_keeps s (Declare d) = by (broken_rule s d)
  where
    by : (rule : Option ℕ) → Keeps s (unwrap_or (declared_unless rule s d) s)
    by None = declared_keeps s d
    by (Some rule) = keeps_itself s
event_keeps s (Step thread) = step_keeps s (applied s (Step thread)) (step_same s thread)
event_keeps s (Complete thread) = by (slice_get s.threads thread.0) refl
  where
    by_test : (t : FlatThread) → slice_get s.threads thread.0 ≡ Some t → (b : Bool) → Keeps s (unwrap_or (complete_if b s thread.0 t) s)
    by_test t here true = let c = completion_of t.no t.context t.queue.items in completed_keeps s thread.0 t here c c.effect
    by_test t here false = keeps_itself s

    by : (o : Option FlatThread) → slice_get s.threads thread.0 ≡ o → Keeps s (unwrap_or (completion_for s thread.0 o) s)
    by None here = keeps_itself s
    by (Some t) here = by_test t here (is_completable t)
