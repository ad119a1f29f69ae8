-- What a port has heard, once one more call was made.
use Rattle.std.specs.Prelude.{Option, Some}
use Rattle.cache_ident.specs.declared.names.ThreadNo.{ThreadNo}
use Rattle.rv32_exec.specs.declared.statuses.Status.{Status}
use Rattle.cache_board.specs.board_core.specs.Growth.{one_more}
use Rattle.cache_board.specs.board_ops.specs.declared.refusals.Refused.{Refused}
use Rattle.owner_ports.specs.declared.port.Heard.{Heard}
use Rattle.owner_ports.specs.declared.port.PortCall.{PortCall}

-- a call was made, and answered so
abbrev pub called : Heard → PortCall → Option Refused → Heard
called h call refused = record h { calls = one_more h.calls; said = Some (record { call = call; refused = refused }) }

-- it was asked how a thread stands, and told so
abbrev pub asked : Heard → ThreadNo → Option Status → Heard
asked h thread status = record h { asks = one_more h.asks; told = Some (record { thread = thread; status = status }) }
