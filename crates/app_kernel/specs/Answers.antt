-- What went through a port while owners walked, and why a walk ends.
use Rattle.std.specs.Prelude.{◌≡◌, ℕ, ◌+◌, ◌-◌, ◌≤◌, ◌^◌, ◌⊎◌, min, Option, Some, Result}
use Rattle.std.specs.Result.{result_err}
use Rattle.std.specs.Option.{option_and_then}
use Rattle.cache_ident.specs.declared.idents.Ident.{Ident}
use Rattle.cache_ident.specs.declared.names.Name.TheVariants.{Space}
use Rattle.cache_ident.specs.declared.names.SpaceNo.{SpaceNo}
use Rattle.cache_ident.specs.declared.names.Vpn.{Vpn}
use Rattle.owner_ports.specs.declared.port.Heard.{Heard}
use Rattle.owner_ports.specs.declared.port.PortCall.TheVariants as calls
use Rattle.page_laws.specs.board_ops.specs.declared.refusals.Refused.{Refused}
use Rattle.page_laws.specs.board_ops.specs.declared.refusals.Refused.TheVariants.{NoMemory}
use Rattle.owners.specs.Known.{ident_of, Known}

-- a count rose by so many, or stands at its last value
abbrev pub HasRisenBy : ℕ → ℕ → ℕ → Type 0
HasRisenBy n old new = min (old + n) (2 ^ 64 - 1) ≤ new

-- why the last call was refused, if it was
abbrev pub last_refusal : Heard → Option Refused
last_refusal h = option_and_then (λ said. said.refused) h.said

-- so many calls were made or more, and the last was refused for this reason
pub record IsLastRefused (n : ℕ) (old new : Heard) (why : Refused) : Type 0 where
  pub calls : HasRisenBy n old.calls new.calls
  pub last : last_refusal new ≡ Some why

-- .. or memory is wanted
abbrev pub IsReason : ℕ → Heard → Heard → Refused → Type 0
IsReason n old new why = (why ≡ NoMemory) ⊎ IsLastRefused n old new why

-- the last call was the load of the row of a page, by the identifier noted for the space, and this is its answer
pub record IsAsked (o : Known) (space : SpaceNo) (vpn : Vpn) (h : Heard) (answer : Result Ident Refused) : Type 0 where
  pub parent : Ident
  pub noted : ident_of o (Space space) ≡ Some parent
  pub last : h.said ≡ Some (record { call = calls.LoadMapping parent vpn; refused = result_err answer })
