-- Why a healing step is refused: of its tests, in their order, the first that fails.
use Rattle.std.specs.Prelude.{if◌then◌else◌, Option, Some, None, slice_get}
use Rattle.std.specs.Option.{option_map, option_or}
use Rattle.cache_ident.specs.declared.names.Name.TheVariants as name
use Rattle.cache_ident.specs.declared.names.ThreadNo.{ThreadNo}
use Rattle.flat_state.specs.declared.records.FlatThread.{FlatThread}
use Rattle.flat_state.specs.Signals.{full_receiver}
use Rattle.board_core.specs.cached_machine.specs.Cached.{state_of}
use Rattle.board_core.specs.cached_machine.specs.Posts.{mark_of}
use Rattle.board_core.specs.board_ops.specs.declared.refusals.Refused.{Refused}
use Rattle.board_core.specs.board_ops.specs.declared.refusals.Refused.TheVariants as why
use Rattle.board_core.specs.Core.{contents_of, Recorded}
use Rattle.board_core.specs.Refusals.{not_ready, over}

-- declarations haven't ended
abbrev pub not_sealed : Recorded → Option Refused
not_sealed b = if b.sealed then None else Some why.NotSealed

-- of a thread that waits: no step is left, a receiver has no room for what the step signals, or declarations haven't ended
abbrev pub refusal_of_waiting : Recorded → FlatThread → Option Refused
refusal_of_waiting b t =
    option_or (over b 1)
    (option_or (option_map why.Held (full_receiver (state_of b.machine) t))
    (not_sealed b))

-- of a thread that there is: it isn't ready, or a processor has it, and then as one that waits
abbrev pub refusal_of_step : Recorded → ThreadNo → FlatThread → Option Refused
refusal_of_step b whom t =
    option_or (not_ready t)
    (option_or (option_map why.OnCpu (mark_of (contents_of b) whom))
    (refusal_of_waiting b t))

abbrev pub refusal_of_found : Recorded → ThreadNo → Option FlatThread → Option Refused
refusal_of_found b whom None = Some (why.NotDeclared (name.Thread whom))
refusal_of_found b whom (Some t) = refusal_of_step b whom t

abbrev pub refusal_of_heal : Recorded → ThreadNo → Option Refused
refusal_of_heal b whom = refusal_of_found b whom (slice_get (state_of b.machine).threads whom.0)
