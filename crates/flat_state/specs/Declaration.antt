-- What a declaration adds, and the first rule that it breaks.
use Rattle.std.specs.Prelude.{ℕ, ◌+◌, ◌*◌, ◌%◌, Bool, true, false, not, ◌&&◌, ◌||◌, ◌==◌, nat_lt, nat_le, is_some, if◌then◌else◌, List, [], ◌∷◌, ◌++◌, length, Option, Some, None, replicate, slice_get, slice_set, count_by}
use Rattle.std.specs.List.{sum_by}
use Rattle.cache_ident.specs.declared.names.Caps.{Caps}
use Rattle.cache_ident.specs.declared.names.KernelNo.{KernelNo}
use Rattle.cache_ident.specs.declared.names.SpaceNo.{SpaceNo}
use Rattle.cache_ident.specs.declared.names.ThreadNo.{ThreadNo}
use Rattle.cache_ident.specs.declared.names.Vpn.{Vpn}
use Rattle.cache_ident.specs.declared.names.Frame.{Frame}
use Rattle.phys_groups.specs.declared.rows.Flags.{Flags}
use Rattle.phys_groups.specs.declared.rows.Row.{Row}
use Rattle.phys_groups.specs.Memory.{written, word_bytes}
use Rattle.phys_groups.specs.Translation.{row_of}
use Rattle.signal_pages.specs.Signals.{is_signal_row_of}
use Rattle.rv32_exec.specs.declared.statuses.Status.TheVariants.{Ready}
use Rattle.flat_state.specs.declared.events.Machine.{Machine}
use Rattle.flat_state.specs.declared.events.TheConstants.{GREATEST_CAPS, MOST_DECLARED}
use Rattle.flat_state.specs.declared.events.Decl.{Decl}
use Rattle.flat_state.specs.declared.events.Decl.TheVariants as decls
use Rattle.flat_state.specs.declared.records.FlatKernel.{FlatKernel}
use Rattle.flat_state.specs.declared.records.FlatThread.{FlatThread}
use Rattle.flat_state.specs.State.{FlatState, groups_of}

-- a rule that is broken where the test is true, else what the later rules say
abbrev pub breaks : Bool → ℕ → Option ℕ → Option ℕ
breaks test rule later = if test then Some rule else later

-- is the frame in memory?
abbrev pub has_frame : FlatState → Frame → Bool
has_frame s frame = nat_lt frame.0 (128 * groups_of s.machine)

abbrev pub is_capacity : ℕ → ℕ → Bool
is_capacity most cap = nat_lt 0 cap && nat_le cap most

-- each capacity is from 1 to its greatest
abbrev pub are_capacities : Caps → Bool
are_capacities caps =
    is_capacity GREATEST_CAPS.kernels caps.kernels
    && (is_capacity GREATEST_CAPS.spaces caps.spaces
    && (is_capacity GREATEST_CAPS.threads caps.threads
    && is_capacity GREATEST_CAPS.mappings caps.mappings))

-- Kernel 0 may lock a kernel, since it is locked itself. No other kernel may.
abbrev pub may_lock_kernels : ℕ → Caps → Bool
may_lock_kernels n limits = if n == 0 then nat_lt 0 limits.kernels else (limits.kernels == 0)

-- the lock limits of all kernels, summed by kind
abbrev pub locks_granted : List FlatKernel → Caps
locks_granted kernels =
    record {
      kernels = sum_by (λ k. k.limits.kernels) kernels;
      spaces = sum_by (λ k. k.limits.spaces) kernels;
      threads = sum_by (λ k. k.limits.threads) kernels;
      mappings = sum_by (λ k. k.limits.mappings) kernels;
    }

abbrev pub caps_of : Option Machine → Caps
caps_of None = record { kernels = 0; spaces = 0; threads = 0; mappings = 0 }
caps_of (Some m) = m.caps

-- With these lock limits beside those granted, each cache has room for all that one step wants:
-- 5 kernels, 5 spaces, 5 threads and 6 rows.
abbrev pub leaves_room : Caps → Caps → Caps → Bool
leaves_room caps granted limits =
    nat_le (granted.kernels + limits.kernels + 5) caps.kernels
    && (nat_le (granted.spaces + limits.spaces + 5) caps.spaces
    && (nat_le (granted.threads + limits.threads + 5) caps.threads
    && nat_le (granted.mappings + limits.mappings + 6) caps.mappings))

abbrev pub has_no_flag : Flags → Bool
has_no_flag f = not (f.r || (f.w || (f.x || f.m)))

-- The message flag asks for w, and stands with neither x nor a receiver. A receiver doesn't stand with x.
abbrev pub agree : Flags → Bool → Bool
agree f signals = (not f.m || (f.w && (not f.x && not signals))) && (not signals || not f.x)

-- the receiver, if there is one, is declared
abbrev pub has_receiver : List FlatThread → Option ThreadNo → Bool
has_receiver threads None = true
has_receiver threads (Some thread) = nat_lt thread.0 (length threads)

abbrev pub thread_is_in : SpaceNo → Option FlatThread → Bool
thread_is_in space None = false
thread_is_in space (Some t) = t.space.0 == space.0

-- the receiver, if there is one, is a thread of the space
abbrev pub is_receiver_in : SpaceNo → List FlatThread → Option ThreadNo → Bool
is_receiver_in space threads None = true
is_receiver_in space threads (Some thread) = thread_is_in space (slice_get threads thread.0)

-- a frame has at most four signal rows
abbrev pub has_four : List Row → Frame → Bool
has_four rows frame = nat_le 4 (count_by (is_signal_row_of frame) rows)

-- the rules of a declaration behind the machine's own, by their numbers
abbrev pub rule_of_kernel : FlatState → ℕ → Caps → Option ℕ
rule_of_kernel s n limits =
    breaks (not (n == length s.kernels)) 8
    (breaks (nat_le MOST_DECLARED.kernels (length s.kernels)) 9
    (breaks (not (may_lock_kernels n limits)) 10
    (breaks (not (leaves_room (caps_of s.machine) (locks_granted s.kernels) limits)) 11 None)))

abbrev pub rule_of_right : FlatState → KernelNo → ℕ → Option ℕ
rule_of_right s kernel group =
    breaks (nat_le (length s.kernels) kernel.0) 12
    (breaks (nat_le (groups_of s.machine) group) 13 None)

abbrev pub rule_of_space : FlatState → ℕ → KernelNo → Option ℕ
rule_of_space s n kernel =
    breaks (not (n == length s.spaces)) 8
    (breaks (nat_le MOST_DECLARED.spaces (length s.spaces)) 9
    (breaks (nat_le (length s.kernels) kernel.0) 12 None))

abbrev pub rule_of_thread : FlatState → ℕ → SpaceNo → ℕ → ℕ → Option ℕ
rule_of_thread s n space pc priority =
    breaks (not (n == length s.threads)) 8
    (breaks (nat_le MOST_DECLARED.threads (length s.threads)) 9
    (breaks (nat_le (length s.spaces) space.0) 12
    (breaks (not (pc % 4 == 0) || nat_lt 31 priority) 14 None)))

abbrev pub rule_of_map : FlatState → SpaceNo → Vpn → Frame → Flags → Option ThreadNo → Option ℕ
rule_of_map s space vpn frame flags receiver =
    breaks (has_no_flag flags) 4
    (breaks (nat_le MOST_DECLARED.mappings (length s.rows)) 9
    (breaks (nat_le (length s.spaces) space.0 || not (has_receiver s.threads receiver)) 12
    (breaks (not (has_frame s frame) || nat_lt 1048575 vpn.0) 13
    (breaks (not (agree flags (is_some receiver))) 16
    (breaks (is_some (row_of s.rows space vpn.0)) 17
    (breaks (not (is_receiver_in space s.threads receiver)) 18
    (breaks (is_some receiver && has_four s.rows frame) 19 None)))))))

abbrev pub rule_of_word : FlatState → Frame → ℕ → Option ℕ
rule_of_word s frame offset =
    breaks (not (has_frame s frame)) 13
    (breaks (not (offset % 4 == 0) || nat_lt 4092 offset) 15 None)

abbrev pub rule_of_other : FlatState → Decl → Option ℕ
rule_of_other s (decls.Machine machine) = Some 5
rule_of_other s (decls.Kernel n limits) = rule_of_kernel s n.0 limits
rule_of_other s (decls.Right kernel group read write) = rule_of_right s kernel group
rule_of_other s (decls.Space n kernel) = rule_of_space s n.0 kernel
rule_of_other s (decls.Thread n space pc priority a0 a1) = rule_of_thread s n.0 space pc priority
rule_of_other s (decls.Map space vpn frame flags receiver) = rule_of_map s space vpn frame flags receiver
rule_of_other s (decls.Word frame offset value) = rule_of_word s frame offset

-- the machine's own rules
abbrev pub rule_of_machine : Machine → Option ℕ
rule_of_machine m =
    breaks (not (nat_lt 0 m.groups && nat_le m.groups 16)) 6
    (breaks (not (are_capacities m.caps)) 7 None)

-- before the machine nothing else is declared, and of a row without a flag that is said first
abbrev pub rule_of_early : Decl → ℕ
rule_of_early (decls.Map space vpn frame flags receiver) = if has_no_flag flags then 4 else 5
rule_of_early d = 5

abbrev pub rule_of_first : Decl → Option ℕ
rule_of_first (decls.Machine machine) = rule_of_machine machine
rule_of_first d = Some (rule_of_early d)

abbrev pub rule_by_machine : Option Machine → FlatState → Decl → Option ℕ
rule_by_machine None s d = rule_of_first d
rule_by_machine (Some m) s d = rule_of_other s d

-- the first rule that a declaration breaks. The machine comes first, and once
unfoldable pub broken_rule : FlatState → Decl → Option ℕ
broken_rule s d = rule_by_machine s.machine s d

-- a kernel begins without rights
abbrev pub new_kernel : Caps → FlatKernel
new_kernel limits = record { limits = limits; rights = replicate 16 (false, false) }

abbrev pub with_right : List FlatKernel → Option FlatKernel → ℕ → ℕ → Bool × Bool → List FlatKernel
with_right kernels None kernel group right = kernels
with_right kernels (Some k) kernel group right = slice_set kernels kernel (record k { rights = slice_set k.rights group right })

-- the registers of a new thread: zeros, but for a0 and a1
abbrev pub new_registers : ℕ → ℕ → List ℕ
new_registers a0 a1 = slice_set (slice_set (replicate 32 0) 10 a0) 11 a1

-- a thread begins ready, with an empty queue and no output
abbrev pub new_thread : ThreadNo → SpaceNo → ℕ → ℕ → ℕ → ℕ → FlatThread
new_thread n space pc priority a0 a1 =
    record {
      no = n;
      space = space;
      context = record { regs = new_registers a0 a1; pc = pc };
      status = Ready;
      priority = priority;
      queue = record { items = [] };
      output = [];
    }

-- a row begins with both bits clear
abbrev pub new_row : SpaceNo → Vpn → Frame → Flags → Option ThreadNo → Row
new_row space vpn frame flags receiver =
    record { space = space; vpn = vpn; frame = frame; flags = flags; receiver = receiver; referenced = false; modified = false }

-- what a declaration that breaks no rule makes of the state
unfoldable pub declared : FlatState → Decl → FlatState
declared s (decls.Machine machine) = record s { machine = Some machine; memory = replicate (524288 * machine.groups) 0 }
declared s (decls.Kernel n limits) = record s { kernels = s.kernels ++ new_kernel limits ∷ [] }
declared s (decls.Right kernel group read write) =
    record s { kernels = with_right s.kernels (slice_get s.kernels kernel.0) kernel.0 group (read, write) }
declared s (decls.Space n kernel) = record s { spaces = s.spaces ++ kernel ∷ [] }
declared s (decls.Thread n space pc priority a0 a1) =
    record s { threads = s.threads ++ new_thread n space pc priority a0 a1 ∷ [] }
declared s (decls.Map space vpn frame flags receiver) =
    record s { rows = s.rows ++ new_row space vpn frame flags receiver ∷ [] }
declared s (decls.Word frame offset value) =
    record s { memory = written s.memory (4096 * frame.0 + offset) (word_bytes value) }
