-- How much a run can still do, at most.
use Rattle.std.specs.Prelude.{ℕ, ◌+◌, ◌-◌, ◌*◌, List, sum_by, if◌then◌else◌}
use Rattle.board_core.specs.flat_state.specs.declared.records.FlatThread.{FlatThread}
use Rattle.board_core.specs.flat_state.specs.State.{FlatState, is_trapped}
use Rattle.board_core.specs.cached_machine.specs.Cached.{state_of}
use Rattle.board_core.specs.Core.{Recorded}

abbrev pub in_call : FlatThread → ℕ
in_call t = if is_trapped t.status then 1 else 0

-- how many of the threads are in a call
abbrev pub calls_among : List FlatThread → ℕ
calls_among threads = sum_by in_call threads

abbrev pub calls_in : FlatState → ℕ
calls_in s = calls_among s.threads

-- Two for each step that is left, itself and the call that it may bring, and one for each thread in a call.
abbrev pub left : Recorded → ℕ
left b = 2 * (b.limit - b.steps) + calls_in (state_of b.machine)
