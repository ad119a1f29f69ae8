-- The next step of a thread.
use Rattle.std.specs.Prelude.{ℕ, Bool, true, false, List, map, Option, Some, None, slice_get}
use Rattle.cache_ident.specs.declared.names.SpaceNo.{SpaceNo}
use Rattle.rv32_exec.specs.Pages.{Page}
use Rattle.rv32_exec.specs.declared.statuses.Access.{Access}
use Rattle.rv32_exec.specs.declared.statuses.Reason.TheVariants.{Fault}
use Rattle.rv32_exec.specs.declared.statuses.Status.{Status}
use Rattle.rv32_exec.specs.declared.statuses.Status.TheVariants.{Ready, Trapped, Ended}
use Rattle.rv32_exec.specs.declared.steps.Stepped.{Stepped}
use Rattle.rv32_exec.specs.declared.steps.Stepped.TheVariants.{Next, Call, Stop, Miss}
use Rattle.rv32_exec.specs.Steps.{After, after_step as after_instruction}
use Rattle.flat_state.specs.declared.records.FlatThread.{FlatThread}
use Rattle.flat_state.specs.State.{FlatState, with_thread}
use Rattle.flat_state.specs.Translation.{reached, fault_kind}
use Rattle.flat_state.specs.Pages.{pages_of, with_pages, with_marks}
use Rattle.flat_state.specs.Signals.{is_runnable, next_signal, receivers_for, delivered}

-- what the thread's next instruction makes of its context and of the pages of its space
abbrev pub outcome : FlatState → FlatThread → After
outcome s t = after_instruction t.context (pages_of s t.space)

-- An access that doesn't translate ends the thread with a fault, and nothing else changes.
abbrev pub faulted : FlatState → ℕ → FlatThread → ℕ → Access → FlatState
faulted s n t va access =
    with_thread s n (record t { status = Ended (Fault (fault_kind (reached s access t.space va)) access va) })

-- what the step leaves in the pages goes back to memory and to the rows
abbrev pub written_back : FlatState → SpaceNo → List Page → FlatState
written_back s space ps = record s { memory = with_pages s.memory ps; rows = map (with_marks space ps) s.rows }

-- the step's signals are delivered
abbrev pub signalled : FlatState → FlatThread → FlatState → FlatState
signalled s t u = record u { threads = delivered u.threads (next_signal s t) (receivers_for s (next_signal s t)) }

-- the thread goes on, or ends by its own instruction
abbrev pub moved : FlatState → ℕ → FlatThread → After → Status → FlatState
moved s n t after status =
    with_thread (written_back s t.space after.pages) n (record t { context = after.context; status = status })

abbrev pub went_on : FlatState → ℕ → FlatThread → After → Status → FlatState
went_on s n t after status = signalled s t (moved s n t after status)

abbrev pub stepped_so : FlatState → ℕ → FlatThread → After → Stepped → FlatState
stepped_so s n t after Next = went_on s n t after Ready
stepped_so s n t after Call = went_on s n t after Trapped
stepped_so s n t after (Stop reason) = went_on s n t after (Ended reason)
stepped_so s n t after (Miss va access) = faulted s n t va access

abbrev pub stepped : FlatState → ℕ → FlatThread → After → FlatState
stepped s n t after = stepped_so s n t after after.answer

abbrev pub step_if : Bool → FlatState → ℕ → FlatThread → Option FlatState
step_if false s n t = None
step_if true s n t = Some (stepped s n t (outcome s t))

abbrev pub step_of : FlatState → ℕ → Option FlatThread → Option FlatState
step_of s n None = None
step_of s n (Some t) = step_if (is_runnable s t) s n t

-- The state after the next step of a thread; none where there is no such thread, or it isn't runnable.
unfoldable pub after_step : FlatState → ℕ → Option FlatState
after_step s n = step_of s n (slice_get s.threads n)
