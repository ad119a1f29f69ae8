use Rattle.std.proofs.Common.{◌≡◌, ◌⊎◌, Some}
use Rattle.cache_ident.specs.declared.names.SpaceNo.{SpaceNo}
use Rattle.cache_ident.specs.declared.names.Vpn.{Vpn}
use Rattle.page_laws.specs.board_ops.specs.declared.refusals.Refused.TheVariants.{NoMemory}
use Rattle.app_kernel.specs.Answers.{last_refusal, HasRisenBy}
use Rattle.app_kernel.specs.Causes.{page_of}
use Rattle.app_kernel.specs.Walks.{AreWalked}
use Rattle.app_kernel.proofs.ServeLaws.{IsTried}
use Rattle.app_kernel.proofs.StillLaws.{IsStill, ToConfirm, ToFill}
use Rattle.app_kernel.proofs.serving.serve.Given as goal

abbrev pub invariant-loop : goal.invariant-loop
invariant-loop g l = record {
  followed : g.P.Port.follows l.fn.port l.port;
  calls : HasRisenBy l.counter (g.P.Port.heard l.fn.port).calls (g.P.Port.heard l.port).calls;
  asks : HasRisenBy 0 (g.P.Port.heard l.fn.port).asks (g.P.Port.heard l.port).asks;
  last : (l.last ≡ NoMemory) ⊎ (last_refusal (g.P.Port.heard l.port) ≡ Some l.last);
  walked : AreWalked (g.P.Port.board l.initial.port) (g.P.Port.board l.port) l.fn.owners l.owners;
  fills : (space : SpaceNo) (vpn : Vpn) → page_of l.notice ≡ Some vpn → IsStill (g.P.Port.board l.fn.port) (g.P.Port.board l.port) l.fn.owners l.owners l.last (ToFill space l.thread vpn l.fn.owners);
  confirms : (space : SpaceNo) (vpn : Vpn) → page_of l.notice ≡ Some vpn → IsStill (g.P.Port.board l.fn.port) (g.P.Port.board l.port) l.fn.owners l.owners l.last (ToConfirm space l.thread vpn l.fn.owners);
  tried : IsTried l.thread l.notice l.fn.owners l.last (g.P.Port.board l.fn.port);
}
