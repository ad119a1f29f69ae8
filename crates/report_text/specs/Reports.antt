-- The report of a machine, and the summary of a run.
use Rattle.std.specs.Prelude.{ℕ, ◌+◌, Bool, ◌&&◌, ◌==◌, List, [], ◌∷◌, ◌++◌, length, count_by, codes, slice_index}
use Rattle.std.specs.Fmt.{decimal}
use Rattle.std.specs.Int.{w32, to_be_bytes}
use Rattle.std.specs.List.{flat_map}
use Rattle.hex.specs.Hex.{encode_lower}
use Rattle.cache_ident.specs.declared.names.KernelNo.{KernelNo}
use Rattle.phys_groups.specs.declared.rows.Row.{Row}
use Rattle.rv32_exec.specs.declared.statuses.Access.{Access}
use Rattle.rv32_exec.specs.declared.statuses.Access.TheVariants as accesses
use Rattle.rv32_exec.specs.declared.statuses.FaultKind.{FaultKind}
use Rattle.rv32_exec.specs.declared.statuses.FaultKind.TheVariants as kinds
use Rattle.rv32_exec.specs.declared.statuses.Reason.{Reason}
use Rattle.rv32_exec.specs.declared.statuses.Misaligned.{Misaligned}
use Rattle.rv32_exec.specs.declared.statuses.Misaligned.TheVariants as misaligned
use Rattle.rv32_exec.specs.declared.statuses.Reason.TheVariants as reasons
use Rattle.rv32_exec.specs.declared.statuses.Status.{Status}
use Rattle.rv32_exec.specs.declared.statuses.Status.TheVariants.{Ready, Trapped, Ended}
use Rattle.flat_state.specs.declared.records.FlatThread.{FlatThread}
use Rattle.flat_state.specs.declared.records.Settled.{Settled}
use Rattle.flat_state.specs.declared.records.Settled.TheVariants.{Done, Stalled, Spent, Running}
use Rattle.flat_state.specs.State.{FlatState}

-- the eight hexadecimal digits of a word, the highest first, behind 0x
abbrev pub word_text : ℕ → List ℕ
word_text word = codes "0x" ++ encode_lower (to_be_bytes w32 word)

abbrev pub settled_text : Settled → List ℕ
settled_text Done = codes "done"
settled_text Stalled = codes "stalled"
settled_text Spent = codes "spent"
settled_text Running = codes "running"

abbrev pub kind_text : FaultKind → List ℕ
kind_text kinds.Page = codes "page"
kind_text kinds.Flags = codes "flags"
kind_text kinds.Rights = codes "rights"

abbrev pub access_text : Access → List ℕ
access_text accesses.Fetch = codes "fetch"
access_text accesses.Read = codes "read"
access_text accesses.Write = codes "write"

abbrev pub misaligned_text : Misaligned → List ℕ
misaligned_text misaligned.Jump = codes "jump"
misaligned_text misaligned.Load = codes "load"
misaligned_text misaligned.Store = codes "store"

abbrev pub reason_text : Reason → List ℕ
reason_text (reasons.Exited code) = codes "exit " ++ decimal code
reason_text (reasons.Fault kind access va) = codes "fault " ++ kind_text kind ++ codes " " ++ access_text access ++ codes " " ++ word_text va
reason_text (reasons.Illegal word) = codes "illegal " ++ word_text word
reason_text (reasons.Misaligned what va) = codes "misaligned " ++ misaligned_text what ++ codes " " ++ word_text va
reason_text reasons.Breakpoint = codes "break"
reason_text (reasons.BadCall number) = codes "badcall " ++ decimal number

-- where a thread stands, and in which call it is where it is in one
abbrev pub state_text : Status → ℕ → List ℕ
state_text Ready call = codes "ready"
state_text Trapped call = codes "call " ++ decimal call
state_text (Ended reason) call = reason_text reason

-- what was put out, and a line feed, where it is anything
abbrev pub output_text : List ℕ → List ℕ
output_text [] = []
output_text (b ∷ bs) = (b ∷ bs) ++ codes "\n"

-- the line of a thread, and what it put out
unfoldable pub thread_text : ℕ → Status → ℕ → List ℕ → List ℕ
thread_text n status call output =
    codes "thread " ++ decimal n ++ codes " " ++ state_text status call ++ codes " out " ++ decimal (length output) ++ codes "\n" ++ output_text output

-- how many rows there are of something, and which
unfoldable pub count_text : List ℕ → ℕ → List ℕ
count_text what count = codes " " ++ (what ++ (codes " " ++ decimal count))

-- the line of a space: its rows, those that were gone through, and those that were stored through
unfoldable pub counts_text : ℕ → ℕ → ℕ → ℕ → List ℕ
counts_text n rows referenced modified =
    codes "space " ++ (decimal n ++ (count_text (codes "rows") rows ++ (count_text (codes "referenced") referenced ++ (count_text (codes "modified") modified
    ++ codes "\n"))))

-- the lines on the run
unfoldable pub heading : Settled → ℕ → List ℕ
heading settled steps = codes "status " ++ settled_text settled ++ codes "\nsteps " ++ decimal steps ++ codes "\n"

-- ---- of a machine

-- the number of a call is in a7, which is x17
abbrev pub line_of_thread : FlatThread → List ℕ
line_of_thread t = thread_text t.no.0 t.status (slice_index t.context.regs 17) t.output

abbrev pub is_of : ℕ → Row → Bool
is_of space row = row.space.0 == space

abbrev pub is_referenced_of : ℕ → Row → Bool
is_referenced_of space row = is_of space row && row.referenced

abbrev pub is_modified_of : ℕ → Row → Bool
is_modified_of space row = is_of space row && row.modified

-- how many rows a space has, and how many of them have each bit
abbrev pub line_of_space : List Row → ℕ → List ℕ
line_of_space rows space = counts_text space (count_by (is_of space) rows) (count_by (is_referenced_of space) rows) (count_by (is_modified_of space) rows)

-- a line for each space from a number on
abbrev pub lines_of_spaces : List Row → ℕ → List KernelNo → List ℕ
lines_of_spaces rows from [] = []
lines_of_spaces rows from (kernel ∷ kernels) = line_of_space rows from ++ lines_of_spaces rows (from + 1) kernels

-- the lines on the run, its spaces and its threads
abbrev pub report : FlatState → Settled → ℕ → List ℕ
report s settled steps = heading settled steps ++ lines_of_spaces s.rows 0 s.spaces ++ flat_map line_of_thread s.threads

-- ---- in short

abbrev pub number_line : List ℕ → ℕ → List ℕ
number_line what number = what ++ (codes " " ++ (decimal number ++ codes "\n"))

-- the number that a scenario was made from, and what came of its run: how it is settled, in a word
unfoldable pub summary_text : ℕ → List ℕ → ℕ → ℕ → ℕ → List ℕ
summary_text seed settled steps threads bytes =
    codes "gen " ++ decimal seed ++ codes " " ++ settled ++ codes "\n" ++ number_line (codes "steps") steps ++ number_line (codes "threads") threads
    ++ number_line (codes "bytes") bytes
