use Rattle.std.proofs.Common.{ap, ◌∙◌}
use Rattle.std.specs.Prelude.{Option, unwrap_or}
use Rattle.cache_ident.specs.declared.names.KernelNo.{KernelNo}
use Rattle.app_kernel.proofs.ReachLaws.{kernel_of_reached}
use Rattle.app_kernel.proofs.walk.reach_kernel_of.Goals as goal

pub returns-clause-reached : goal.returns-clause-reached
returns-clause-reached g c =
    kernel_of_reached (g.P.Port.board c.args.port.now) (g.P.Port.board c.reach_kernel.new.port) c.args.owners.now c.reach_kernel.new.owners c.args.space c.args.trust c.unwrap_or-kernel.result c.reach_kernel.result
    (λ its is. c.unwrap_or-kernel.ensures ∙ ap (λ (o : Option KernelNo). unwrap_or o (record { 0 = 0 })) (c.kernel_of.ensures ∙ is)) c.reach_kernel.ensures.reached

pub returns-clause-gentle : goal.returns-clause-gentle
returns-clause-gentle g c = c.reach_kernel.ensures.gentle c.args.space (λ its is. c.unwrap_or-kernel.ensures ∙ ap (λ (o : Option KernelNo). unwrap_or o (record { 0 = 0 })) (c.kernel_of.ensures ∙ is))
