-- What a call leaves of the thread that is in it.
use Rattle.std.specs.Prelude.{◌≡◌, ℕ, if◌then◌else◌, List, [], ◌∷◌, ◌++◌}
use Rattle.std.specs.Fmt.{decimal}
use Rattle.arrayvec.specs.ArrayVec.{ArrayVec}
use Rattle.cache_ident.specs.declared.names.SpaceNo.{SpaceNo}
use Rattle.cache_ident.specs.declared.names.ThreadNo.{ThreadNo}
use Rattle.rv32_exec.specs.declared.contexts.Context.{Context}
use Rattle.rv32_exec.specs.declared.statuses.Status.{Status}
use Rattle.rv32_exec.specs.declared.statuses.Status.TheVariants.{Ended}
use Rattle.fault_forward.specs.declared.effects.Effect.{Effect}
use Rattle.fault_forward.specs.declared.effects.Effect.TheVariants as effects
use Rattle.fault_forward.specs.Calls.{Completion, completion_of}
use Rattle.flat_state.specs.declared.records.FlatThread.{FlatThread}
use Rattle.flat_state.specs.State.{is_ended}
use Rattle.flat_state.specs.Call.{resumed}

-- what the call that a thread is in brings about
unfoldable pub call_of : FlatThread → Completion
call_of t = completion_of t.no t.context t.queue.items

-- what a call leaves of its thread, where nothing but the thread takes part in it
abbrev pub own_part_so : FlatThread → Completion → Effect → FlatThread
own_part_so t c effects.Ready = resumed t c
own_part_so t c (effects.Put byte) = record (resumed t c) { output = t.output ++ byte ∷ [] }
own_part_so t c (effects.Decimal number) = record (resumed t c) { output = t.output ++ decimal number }
own_part_so t c (effects.End reason) = record t { status = Ended reason }
own_part_so t c (effects.Map vpn frame flags receiver) = t
own_part_so t c (effects.Unmap vpn) = t
own_part_so t c (effects.Spawn pc a0 priority) = t
own_part_so t c (effects.Grant kernel group bits) = t

abbrev pub own_part : FlatThread → FlatThread
own_part t = own_part_so t (call_of t) (call_of t).effect

-- a thread of these parts
abbrev pub thread_of : ThreadNo → SpaceNo → ℕ → Context → Status → ArrayVec ℕ → List ℕ → FlatThread
thread_of number space priority context status queue output =
    record { no = number; space = space; context = context; status = status; priority = priority; queue = queue; output = output }

-- Of a thread with the first context, status, queue and output, whatever its space and its priority, its call leaves the
-- second ones.
abbrev pub Leaves : ThreadNo → Context → Status → ArrayVec ℕ → List ℕ → Context → Status → ArrayVec ℕ → List ℕ → Type 0
Leaves number c s q o c' s' q' o' =
    (space : SpaceNo) (priority : ℕ) → thread_of number space priority c' s' q' o' ≡ own_part (thread_of number space priority c s q o)

-- these parts stay
pub record Keeps (c : Context) (s : Status) (q : ArrayVec ℕ) (o : List ℕ) (c' : Context) (s' : Status) (q' : ArrayVec ℕ) (o' : List ℕ) : Type 0 where
  pub context : c' ≡ c
  pub status : s' ≡ s
  pub queue : q' ≡ q
  pub output : o' ≡ o

-- a queue with an address more, unless its thread has ended
abbrev pub queue_with : ℕ → Status → ArrayVec ℕ → ArrayVec ℕ
queue_with va status queue = if is_ended status then queue else record { items = queue.items ++ va ∷ [] }
