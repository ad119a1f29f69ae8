-- What the completion of a thread's call makes of the machine.
use Rattle.std.specs.Prelude.{ℕ, ◌-◌, ◌/◌, ◌%◌, ◌^◌, Bool, true, false, not, ◌&&◌, ◌||◌, ◌==◌, nat_lt, is_some, if◌then◌else◌, [], ◌∷◌, ◌++◌, length, Option, Some, None, slice_get}
use Rattle.std.specs.Fmt.{decimal}
use Rattle.cache_ident.specs.declared.names.KernelNo.{KernelNo}
use Rattle.cache_ident.specs.declared.names.ThreadNo.{ThreadNo}
use Rattle.phys_groups.specs.declared.rows.Flags.{Flags}
use Rattle.phys_groups.specs.Translation.{row_of, without}
use Rattle.rv32_exec.specs.declared.statuses.Status.TheVariants.{Ready, Ended}
use Rattle.fault_forward.specs.declared.effects.Effect.{Effect}
use Rattle.fault_forward.specs.declared.effects.Effect.TheVariants as effects
use Rattle.fault_forward.specs.Calls.{Completion, completion_of, call_number, with_answer}
use Rattle.flat_state.specs.declared.events.Decl.{Decl}
use Rattle.flat_state.specs.declared.events.Decl.TheVariants as decls
use Rattle.flat_state.specs.declared.records.FlatThread.{FlatThread}
use Rattle.flat_state.specs.State.{FlatState, is_trapped, with_thread}
use Rattle.flat_state.specs.Declaration.{breaks, broken_rule, declared}

-- a thread that is in a call waits where that is call 3 and its queue is empty
abbrev pub has_nothing_to_take : FlatThread → Bool
has_nothing_to_take t = (call_number t.context == 3) && (length t.queue.items == 0)

abbrev pub waits : FlatThread → Bool
waits t = is_trapped t.status && has_nothing_to_take t

abbrev pub is_completable : FlatThread → Bool
is_completable t = is_trapped t.status && not (waits t)

-- the thread goes on, as its completed call leaves it
abbrev pub resumed : FlatThread → Completion → FlatThread
resumed t c = record t { context = c.context; status = Ready; queue = record { items = c.queue } }

-- the thread goes on, with an answer in a0
abbrev pub answered : FlatThread → ℕ → FlatThread
answered t answer = record t { context = with_answer t.context answer; status = Ready }

-- the answer that tells of a broken rule
abbrev pub refusal : ℕ → ℕ
refusal rule = 2 ^ 32 - rule

-- A declaration made by a call. Where it breaks a rule nothing but the answer comes of it.
abbrev pub made : FlatState → ℕ → FlatThread → Decl → ℕ → Option ℕ → FlatState
made s n t d answer None = with_thread (declared s d) n (answered t answer)
made s n t d answer (Some rule) = with_thread s n (answered t (refusal rule))

abbrev pub bit : ℕ → ℕ → Bool
bit bits place = bits / place % 2 == 1

-- flags by their bits: 1 r, 2 w, 4 x, 8 m
abbrev pub flags_of : ℕ → Flags
flags_of bits = record { r = bit bits 1; w = bit bits 2; x = bit bits 4; m = bit bits 8 }

-- 0 is no receiver, and any other number is one above the receiver's
abbrev pub receiver_of : ℕ → Option ThreadNo
receiver_of number = if number == 0 then None else Some (record { 0 = number - 1 })

-- The row that a call asks for. Bits above those of the flags break the rule of a field's form.
abbrev pub mapping : FlatThread → ℕ → ℕ → ℕ → ℕ → Decl
mapping t vpn frame bits receiver =
    decls.Map t.space (record { 0 = vpn }) (record { 0 = frame }) (flags_of bits) (receiver_of receiver)

abbrev pub rule_of_mapping : FlatState → Decl → ℕ → Option ℕ
rule_of_mapping s d bits = breaks ((bits == 0) || nat_lt 15 bits) 4 (broken_rule s d)

abbrev pub mapped : FlatState → ℕ → FlatThread → Decl → ℕ → FlatState
mapped s n t d bits = made s n t d 0 (rule_of_mapping s d bits)

-- The row of the page goes, with its bits. Where there is none, the answer tells.
abbrev pub unmapped : FlatState → ℕ → FlatThread → ℕ → FlatState
unmapped s n t vpn =
    if is_some (row_of s.rows t.space vpn) then with_thread (record s { rows = without t.space vpn s.rows }) n (answered t 0) else with_thread s n (answered t (refusal 1))

-- the thread that a call asks for has the next number, the caller's space, and zero in a1
abbrev pub spawning : FlatState → FlatThread → ℕ → ℕ → ℕ → Decl
spawning s t pc a0 priority = decls.Thread (record { 0 = length s.threads }) t.space pc priority a0 0

abbrev pub spawned : FlatState → ℕ → FlatThread → Decl → FlatState
spawned s n t d = made s n t d (length s.threads) (broken_rule s d)

abbrev pub is_first : Option KernelNo → Bool
is_first None = false
is_first (Some kernel) = kernel.0 == 0

-- the rights that a call asks for, by their bits: 1 read, 2 write
abbrev pub granting : ℕ → ℕ → ℕ → Decl
granting kernel group bits = decls.Right (record { 0 = kernel }) group (bit bits 1) (bit bits 2)

abbrev pub rule_of_granting : FlatState → Decl → ℕ → Option ℕ
rule_of_granting s d bits = breaks (nat_lt 3 bits) 4 (broken_rule s d)

-- only a thread of the first kernel sets rights
abbrev pub granted : FlatState → ℕ → FlatThread → Decl → ℕ → FlatState
granted s n t d bits =
    if is_first (slice_get s.spaces t.space.0) then made s n t d 0 (rule_of_granting s d bits) else with_thread s n (answered t (refusal 1))

-- what a call with that effect leaves
abbrev pub completed_so : FlatState → ℕ → FlatThread → Completion → Effect → FlatState
completed_so s n t c effects.Ready = with_thread s n (resumed t c)
completed_so s n t c (effects.Put byte) = with_thread s n (record (resumed t c) { output = t.output ++ byte ∷ [] })
completed_so s n t c (effects.Decimal number) = with_thread s n (record (resumed t c) { output = t.output ++ decimal number })
completed_so s n t c (effects.End reason) = with_thread s n (record t { status = Ended reason })
completed_so s n t c (effects.Map vpn frame flags receiver) = mapped s n t (mapping t vpn frame flags receiver) flags
completed_so s n t c (effects.Unmap vpn) = unmapped s n t vpn
completed_so s n t c (effects.Spawn pc a0 priority) = spawned s n t (spawning s t pc a0 priority)
completed_so s n t c (effects.Grant kernel group bits) = granted s n t (granting kernel group bits) bits

abbrev pub completed : FlatState → ℕ → FlatThread → Completion → FlatState
completed s n t c = completed_so s n t c c.effect

abbrev pub complete_if : Bool → FlatState → ℕ → FlatThread → Option FlatState
complete_if false s n t = None
complete_if true s n t = Some (completed s n t (completion_of t.no t.context t.queue.items))

abbrev pub completion_for : FlatState → ℕ → Option FlatThread → Option FlatState
completion_for s n None = None
completion_for s n (Some t) = complete_if (is_completable t) s n t

-- The state after a thread's call is completed; none where there is no such thread, or its call can't be completed.
unfoldable pub after_completion : FlatState → ℕ → Option FlatState
after_completion s n = completion_for s n (slice_get s.threads n)
