-- A cause that was so of a later moment is so of an earlier one.
use Rattle.std.proofs.Common.{Result, Ok, Err, inl, inr, arith}
use Rattle.std.specs.Prelude.{IfOk}
use Rattle.cache_ident.specs.declared.names.ThreadNo.{ThreadNo}
use Rattle.fault_forward.specs.declared.effects.Notice.{Notice}
use Rattle.page_laws.specs.board_ops.specs.declared.refusals.Refused.{Refused}
use Rattle.owner_ports.specs.declared.port.Heard.{Heard}
use Rattle.owners.specs.Known.{Known}
use Rattle.app_kernel.specs.declared.serving.Served.{Served}
use Rattle.app_kernel.specs.declared.serving.Served.TheVariants as served
use Rattle.app_kernel.specs.Answers.{HasRisenBy}
use Rattle.app_kernel.specs.Causes.{IsCause}

pub cause_from : (o : Known) (thread : ThreadNo) (notice : Notice) (old mid new : Heard) (answer : Served) → HasRisenBy 0 old.calls mid.calls → HasRisenBy 0 old.asks mid.asks → IsCause o thread notice mid new answer → IsCause o thread notice old new answer
cause_from o thread notice old mid new served.Resumed calls asks is = (omega (arith, is.0), is.1)
cause_from o thread notice old mid new served.Ended calls asks is = elim is [
  | inl told ↦ inl (omega (arith, told.0), told.1)
  | inr last ↦ inr (omega (arith, last.0), last.1)
]
cause_from o thread notice old mid new (served.Again why) calls asks is = elim is [
  | inl wants ↦ inl wants
  | inr last ↦ inr (record { calls = omega (arith, last.calls); last = last.last })
]

pub ok_from : (o : Known) (thread : ThreadNo) (notice : Notice) (old mid new : Heard) (r : Result Served Refused) → HasRisenBy 0 old.calls mid.calls → HasRisenBy 0 old.asks mid.asks → IfOk r (IsCause o thread notice mid new) → IfOk r (IsCause o thread notice old new)
ok_from o thread notice old mid new (Ok answer) calls asks is = cause_from o thread notice old mid new answer calls asks is
ok_from o thread notice old mid new (Err why) calls asks is = is
