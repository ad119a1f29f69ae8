-- What a call leaves of its thread.
use Rattle.std.proofs.Common.{◌≡◌, Result, Ok, Err, ℕ, Bool, true, false, List, [], ◌∷◌, refl, ap, ◌∙◌, ◌⊎◌, inl, inr}
use Rattle.std.specs.Prelude.{OnErr, ◌==◌, if◌then◌else◌}
use Rattle.arrayvec.specs.ArrayVec.{ArrayVec}
use Rattle.cache_ident.specs.declared.names.ThreadNo.{ThreadNo}
use Rattle.rv32_exec.specs.declared.contexts.Context.{Context}
use Rattle.rv32_exec.specs.declared.statuses.Reason.{Reason}
use Rattle.rv32_exec.specs.declared.statuses.Status.{Status}
use Rattle.rv32_exec.specs.declared.statuses.Status.TheVariants.{Ready}
use Rattle.fault_forward.specs.declared.effects.Effect.{Effect}
use Rattle.fault_forward.specs.declared.effects.Effect.TheVariants as effects
use Rattle.fault_forward.specs.Calls.{Completion, completion_of, call_number, taken}
use Rattle.flat_state.specs.declared.records.FlatThread.{FlatThread}
use Rattle.flat_state.specs.Call.{resumed}
use Rattle.flat_thread.specs.Calls.{call_of, own_part_so}

-- a call by which the thread just goes on, or one that leaves its context and its queue
abbrev LeavesRest : Context → List ℕ → Completion → Type 0
LeavesRest c queue x = (x.effect ≡ effects.Ready) ⊎ ((x.context ≡ c) × (x.queue ≡ queue))

either : (c : Context) (queue : List ℕ) (b : Bool) (x y : Completion) → LeavesRest c queue x → LeavesRest c queue y → LeavesRest c queue (if b then x else y)
either c queue true x y first second = first
either c queue false x y first second = second

taken_ready : (c : Context) (queue : List ℕ) → (taken c queue).effect ≡ effects.Ready
taken_ready c [] = refl
taken_ready c (first ∷ queue) = refl

leaves_rest : (thread : ThreadNo) (c : Context) (queue : List ℕ) → LeavesRest c queue (completion_of thread c queue)
leaves_rest thread c queue =
    either c queue (call_number c == 0) _ _ (inr (refl, refl))
    (either c queue (call_number c == 1) _ _ (inr (refl, refl))
    (either c queue (call_number c == 2) _ _ (inr (refl, refl))
    (either c queue (call_number c == 3) _ _ (inl (taken_ready c queue))
    (either c queue (call_number c == 4) _ _ (inl refl)
    (either c queue (call_number c == 5) _ _ (inl refl)
    (either c queue (call_number c == 6) _ _ (inr (refl, refl))
    (either c queue (call_number c == 7) _ _ (inr (refl, refl))
    (either c queue (call_number c == 8) _ _ (inr (refl, refl))
    (either c queue (call_number c == 9) _ _ (inr (refl, refl)) (inr (refl, refl)))))))))))

pub same_queue : (q : ArrayVec ℕ) (xs : List ℕ) → q.items ≡ xs → q ≡ record { items = xs }
same_queue q xs e = ap (λ (ys : List ℕ). let r : ArrayVec ℕ = record { items = ys } in r) e

-- a call with another effect leaves the queue
pub queue_stays : (t : FlatThread) (q : ArrayVec ℕ) → q.items ≡ (call_of t).queue → ((call_of t).effect ≡ effects.Ready → ⊥) → q ≡ t.queue
unfolding call_of
queue_stays t q e other = elim (leaves_rest t.no t.context t.queue.items) [
  | inl ready ↦ absurd (other ready)
  | inr rest ↦ same_queue q t.queue.items (e ∙ rest.1)
]

-- the thread as its call leaves it, from its parts
pub carried : (t : FlatThread) (context : Context) (status : Status) (q : ArrayVec ℕ) (output written : List ℕ) → context ≡ (call_of t).context → status ≡ Ready → q.items ≡ (call_of t).queue → output ≡ written → ◌≡◌ {A = FlatThread} (record t { context = context; status = status; queue = q; output = output }) (record (resumed t (call_of t)) { output = written })
carried t context status q output written same_context goes_on same_items same_output =
    rw (same_context, goes_on, same_queue q _ same_items, same_output) refl

-- a call whose effect is the machine's leaves its thread
pub left_over : (t : FlatThread) (x : Completion) (effect : Effect) → (effect ≡ effects.Ready → ⊥) → ((byte : ℕ) → effect ≡ effects.Put byte → ⊥) → ((number : ℕ) → effect ≡ effects.Decimal number → ⊥) → ((reason : Reason) → effect ≡ effects.End reason → ⊥) → own_part_so t x effect ≡ t
left_over t x effects.Ready no_ready no_put no_decimal no_end = absurd (no_ready refl)
left_over t x (effects.Put byte) no_ready no_put no_decimal no_end = absurd (no_put byte refl)
left_over t x (effects.Decimal number) no_ready no_put no_decimal no_end = absurd (no_decimal number refl)
left_over t x (effects.End reason) no_ready no_put no_decimal no_end = absurd (no_end reason refl)
left_over t x (effects.Map vpn frame flags receiver) no_ready no_put no_decimal no_end = refl
left_over t x (effects.Unmap vpn) no_ready no_put no_decimal no_end = refl
left_over t x (effects.Spawn pc a0 priority) no_ready no_put no_decimal no_end = refl
left_over t x (effects.Grant kernel group bits) no_ready no_put no_decimal no_end = refl

-- what holds also holds on an error
pub on_err : {T E P : Type 0} (r : Result T E) → P → OnErr r P
on_err (Ok x) p = tt
on_err (Err e) p = p
