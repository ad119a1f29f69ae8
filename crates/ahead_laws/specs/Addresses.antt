-- Where an action goes in memory.
use Rattle.std.specs.Prelude.{ℕ, Option, Some, None}
use Rattle.flat_machine.specs.rv32_exec.specs.declared.actions.Action.{Action}
use Rattle.flat_machine.specs.rv32_exec.specs.declared.actions.Action.TheVariants as actions

-- the address that the action loads from or stores to, if it does
abbrev pub address_of : Option Action → Option ℕ
address_of (Some (actions.Load rd va width signed)) = Some va
address_of (Some (actions.Store va width value)) = Some va
address_of (Some (actions.Atomic rd va op operand)) = Some va
address_of _ = None
