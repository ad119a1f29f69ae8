-- Why a thread doesn't go on: of the tests, in their order, the first that fails.
use Rattle.std.specs.Prelude.{ℕ, ◌-◌, if◌then◌else◌, nat_lt, Option, Some, None}
use Rattle.std.specs.Option.{option_map, option_or}
use Rattle.flat_state.specs.declared.records.FlatThread.{FlatThread}
use Rattle.flat_state.specs.State.{is_ready}
use Rattle.board_ops.specs.declared.refusals.Refused.{Refused}
use Rattle.board_ops.specs.declared.refusals.Refused.TheVariants as why
use Rattle.cached_machine.specs.desc_stores.specs.Contents.{Contents}
use Rattle.cached_machine.specs.Posts.{mark_of}
use Rattle.board_core.specs.Core.{Recorded}

-- the thread takes no steps
abbrev pub not_ready : FlatThread → Option Refused
not_ready t = if is_ready t.status then None else Some (why.NotRunnable t.status)

-- .. or a processor has it
unfoldable pub not_waiting : Contents → FlatThread → Option Refused
not_waiting c t = option_or (not_ready t) (option_map why.OnCpu (mark_of c t.no))

-- fewer steps are left than so many
unfoldable pub over : Recorded → ℕ → Option Refused
over b steps = if nat_lt (b.limit - b.steps) steps then Some (why.Over (b.limit - b.steps)) else None
