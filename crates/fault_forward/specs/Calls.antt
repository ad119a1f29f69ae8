-- The thread calls. The number is in a7, which is x17, and the arguments are in a0 to a3, which are x10 to x13.
use Rattle.std.specs.Prelude.{◌≡◌, ℕ, ◌+◌, ◌%◌, ◌<◌, ◌==◌, if◌then◌else◌, List, [], ◌∷◌, length, slice_index, slice_set}
use Rattle.cache_ident.specs.declared.names.ThreadNo.{ThreadNo}
use Rattle.rv32_exec.specs.declared.contexts.Context.{Context}
use Rattle.rv32_exec.specs.declared.statuses.Reason.TheVariants.{Exited, BadCall}
use Rattle.fault_forward.specs.declared.effects.Effect.{Effect}
use Rattle.fault_forward.specs.declared.effects.Effect.TheVariants.{Ready, Put, Decimal, End, Map, Unmap, Spawn, Grant}

-- the number of the call
abbrev pub call_number : Context → ℕ
call_number c = slice_index c.regs 17

-- the argument at a place, counted from 0
abbrev pub argument : Context → ℕ → ℕ
argument c place = slice_index c.regs (10 + place)

-- the context with an answer in a0
abbrev pub with_answer : Context → ℕ → Context
with_answer c answer = record c { regs = slice_set c.regs 10 answer }

-- call 3 waits while the queue is empty; no other call waits
abbrev pub IsCompletable : Context → List ℕ → Type 0
IsCompletable c queue = call_number c ≡ 3 → 0 < length queue

-- what a completed call brings about, and what it leaves in the context and the queue
pub record Completion : Type 0 where
  pub effect : Effect
  pub context : Context
  pub queue : List ℕ

-- a call that answers nothing, or whose answer is the caller's to give
abbrev pub brings : Effect → Context → List ℕ → Completion
brings effect c queue = record { effect = effect; context = c; queue = queue }

-- a call that answers in a0
abbrev pub answers : ℕ → Context → List ℕ → Completion
answers answer c queue = record { effect = Ready; context = with_answer c answer; queue = queue }

-- call 3 takes the first address of the queue
abbrev pub taken : Context → List ℕ → Completion
taken c [] = brings Ready c []
taken c (first ∷ queue) = answers first c queue

-- the effect of each call, by its number. Any other number ends the thread.
abbrev pub completion_by : ℕ → ThreadNo → Context → List ℕ → Completion
completion_by number thread c queue =
    if number == 0 then brings (End (Exited (argument c 0))) c queue
    else (if number == 1 then brings (Put (argument c 0 % 256)) c queue
    else (if number == 2 then brings (Decimal (argument c 0)) c queue
    else (if number == 3 then taken c queue
    else (if number == 4 then brings Ready c queue
    else (if number == 5 then answers thread.0 c queue
    else (if number == 6 then brings (Map (argument c 0) (argument c 1) (argument c 2) (argument c 3)) c queue
    else (if number == 7 then brings (Unmap (argument c 0)) c queue
    else (if number == 8 then brings (Spawn (argument c 0) (argument c 1) (argument c 2)) c queue
    else (if number == 9 then brings (Grant (argument c 0) (argument c 1) (argument c 2)) c queue
    else brings (End (BadCall number)) c queue)))))))))

-- what completing the call of a thread brings about
abbrev pub completion_of : ThreadNo → Context → List ℕ → Completion
completion_of thread c queue = completion_by (call_number c) thread c queue
