-- Why owners answer as they do.
use Rattle.std.specs.Prelude.{◌≡◌, ◌/◌, ◌⊎◌, Option, Some, None, Ok}
use Rattle.cache_ident.specs.declared.idents.Ident.{Ident}
use Rattle.cache_ident.specs.declared.names.Name.TheVariants.{Thread}
use Rattle.cache_ident.specs.declared.names.SpaceNo.{SpaceNo}
use Rattle.cache_ident.specs.declared.names.ThreadNo.{ThreadNo}
use Rattle.cache_ident.specs.declared.names.Vpn.{Vpn}
use Rattle.fault_forward.specs.declared.effects.Notice.{Notice}
use Rattle.fault_forward.specs.declared.effects.Notice.TheVariants as notices
use Rattle.rv32_exec.specs.declared.statuses.Reason.{Reason}
use Rattle.rv32_exec.specs.declared.statuses.Status.TheVariants.{Ended}
use Rattle.page_laws.specs.board_ops.specs.declared.refusals.Refused.{Refused}
use Rattle.page_laws.specs.board_ops.specs.declared.refusals.Refused.TheVariants as why
use Rattle.owner_ports.specs.declared.port.Heard.{Heard}
use Rattle.owner_ports.specs.declared.port.PortCall.{PortCall}
use Rattle.owner_ports.specs.declared.port.PortCall.TheVariants as calls
use Rattle.owners.specs.Known.{ident_of, space_of, Known}
use Rattle.app_kernel.specs.declared.serving.Served.{Served}
use Rattle.app_kernel.specs.declared.serving.Served.TheVariants as served
use Rattle.app_kernel.specs.Answers.{HasRisenBy, IsAsked, IsReason}

-- the page of a notice, if it is of a fault
abbrev pub page_of : Notice → Option Vpn
page_of (notices.Fault va access) = Some (record { 0 = va / 4096 })
page_of notices.Trap = None

-- the row of the notice's page was loaded, into the space that the owners have for the thread, by the identifier noted for that
pub record IsRowLoaded (o : Known) (thread : ThreadNo) (notice : Notice) (h : Heard) : Type 0 where
  pub space : SpaceNo
  pub its : space_of o thread ≡ Some space
  pub vpn : Vpn
  pub page : page_of notice ≡ Some vpn
  pub ident : Ident
  pub asked : IsAsked o space vpn h (Ok ident)

-- the last call was one for the thread, by the identifier noted for it, and this is why it was refused, if it was
pub record IsLastFor (o : Known) (thread : ThreadNo) (call : Ident → PortCall) (refused : Option Refused) (h : Heard) : Type 0 where
  pub ident : Ident
  pub noted : ident_of o (Thread thread) ≡ Some ident
  pub last : h.said ≡ Some (record { call = call ident; refused = refused })

-- the thread's next step doesn't fault
pub record IsToldMapped (o : Known) (thread : ThreadNo) (h : Heard) : Type 0 where
  pub space : SpaceNo
  pub vpn : Vpn
  pub last : IsLastFor o thread calls.ConfirmFault (Some (why.Mapped space vpn)) h

-- it was told last that the thread has ended
pub record IsToldEnded (thread : ThreadNo) (h : Heard) : Type 0 where
  pub reason : Reason
  pub last : h.told ≡ Some (record { thread = thread; status = Some (Ended reason) })

-- The cause of an answer. Resumed: a call was made, and the last loaded the row, or completed the thread's call, or told that its next
-- step doesn't fault. Ended: the thread's status was asked for and told so, or a call was made, and the last ended it. Again: three
-- calls were made or more, and the last was refused for that reason. Want of memory has no cause.
abbrev pub IsCause : Known → ThreadNo → Notice → Heard → Heard → Served → Type 0
IsCause o thread notice old new served.Resumed =
    HasRisenBy 1 old.calls new.calls × (IsRowLoaded o thread notice new ⊎ (IsLastFor o thread calls.Complete None new ⊎ IsToldMapped o thread new))
IsCause o thread notice old new served.Ended =
    (HasRisenBy 1 old.asks new.asks × IsToldEnded thread new) ⊎ (HasRisenBy 1 old.calls new.calls × IsLastFor o thread calls.ConfirmFault None new)
IsCause o thread notice old new (served.Again why) = IsReason 3 old new why
