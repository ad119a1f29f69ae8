-- Why a fault isn't confirmed: of the tests, in their order, the first that fails.
use Rattle.std.specs.Prelude.{if◌then◌else◌, Option, Some, None}
use Rattle.std.specs.Option.{option_and_then, option_or}
use Rattle.cache_ident.specs.declared.idents.Ident.{Ident}
use Rattle.cache_ident.specs.declared.names.Name.{Name}
use Rattle.cache_ident.specs.declared.names.Name.TheVariants as name
use Rattle.flat_state.specs.declared.records.FlatThread.{FlatThread}
use Rattle.flat_state.specs.declared.records.NextStep.{NextStep}
use Rattle.flat_state.specs.NextSteps.{next_step_of}
use Rattle.board_checks.specs.desc_stores.specs.Contents.{Contents}
use Rattle.board_checks.specs.board_ops.specs.declared.refusals.Refused.{Refused}
use Rattle.board_checks.specs.board_ops.specs.declared.refusals.Refused.TheVariants as why
use Rattle.board_checks.specs.Identifiers.{thread_as}
use Rattle.board_checks.specs.Refusals.{refusal_of_thread}
use Rattle.board_core.specs.cached_machine.specs.Cached.{is_loaded, state_of}
use Rattle.board_core.specs.Core.{contents_of, Recorded}
use Rattle.board_core.specs.Refusals.{not_waiting, over}

-- an access goes through that row, if there is one
abbrev pub mapped_by : Option Name → Option Refused
mapped_by (Some (name.Mapping space vpn)) = Some (why.Mapped space vpn)
mapped_by _ = None

-- the step doesn't fault: its data goes through a row, or its fetch where it has no access to data
abbrev pub not_faulting : NextStep → Option Refused
not_faulting next = if next.faults then None else mapped_by (option_or next.data_row next.fetch_row)

-- the row, if there is one, isn't loaded
unfoldable pub row_absent : Contents → Option Name → Option Refused
row_absent c (Some (name.Mapping space vpn)) = if is_loaded c (name.Mapping space vpn) then None else Some (why.NotLoaded vpn)
row_absent c _ = None

-- of the next step: it doesn't fault, or fetches through a row that isn't loaded, or no step is left
abbrev pub refusal_of_next : Recorded → NextStep → Option Refused
refusal_of_next b next = option_or (not_faulting next) (option_or (row_absent (contents_of b) next.fetch_row) (over b 1))

-- of the thread: it takes no steps, or is on a processor, and then of its next step
unfoldable pub refusal_of_ending : Recorded → FlatThread → Option Refused
refusal_of_ending b t = option_or (not_waiting (contents_of b) t) (refusal_of_next b (next_step_of (state_of b.machine) t))

-- of the call: first by its identifiers
abbrev pub refusal_of_fault : Recorded → Ident → Ident → Option Refused
refusal_of_fault b caller thread =
    option_or (refusal_of_thread (contents_of b) caller thread) (option_and_then (refusal_of_ending b) (thread_as (contents_of b) thread))
