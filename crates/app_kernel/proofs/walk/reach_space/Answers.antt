use Rattle.std.proofs.Common.{ap, ◌∙◌}
use Rattle.std.specs.Prelude.{Err}
use Rattle.std.proofs.lemmas.Result.{err_from_is_err_and}
use Rattle.page_laws.specs.board_ops.specs.declared.refusals.Refused.{Refused}
use Rattle.app_kernel.proofs.ReachLaws.{space_reached, space_unreached}
use Rattle.app_kernel.proofs.WalkLaws.{space_taken, walked_on}
use Rattle.app_kernel.proofs.GentleCalls.{space_gentle}
use Rattle.app_kernel.proofs.GentleLaws.{gentle_on}
use Rattle.app_kernel.proofs.walk.reach_space.Goals as goal

pub returns-in_err-kernel-clause-reached : goal.returns-in_err-kernel-clause-reached
returns-in_err-kernel-clause-reached g c =
    let p = err_from_is_err_and c.from_residual.result c.from_residual.ensures.1 in
    space_unreached (g.P.Port.board c.args.port.now) (g.P.Port.board c.reach_kernel_of.new.port) c.args.owners.now c.reach_kernel_of.new.owners c.args.space c.args.trust c.in_err-kernel.field-0.0 c.reach_kernel_of.result c.from_residual.result c.reach_kernel_of.ensures.reached c.in_err-kernel.was (p.1 ∙ ap (λ (x : Refused). Err x) p.2)

pub returns-clause-walked : goal.returns-clause-walked
returns-clause-walked g c =
    walked_on (g.P.Port.board c.args.port.now) (g.P.Port.board c.reach_kernel_of.new.port) (g.P.Port.board c.load_space-answer.new.self) c.args.owners.now c.reach_kernel_of.new.owners c.take.new.owners c.reach_kernel_of.ensures.walked
    (space_taken (g.P.Port.board c.reach_kernel_of.new.port) (g.P.Port.board c.load_space-answer.new.self) c.load_space-answer.result c.reach_kernel_of.new.owners c.take.new.owners c.take.result c.in_ok-kernel.kernel c.args.space c.load_space-answer.ensures.call c.take.ensures.noted c.take.ensures.taken c.take.ensures.same)

pub returns-clause-reached : goal.returns-clause-reached
returns-clause-reached g c =
    space_reached (g.P.Port.board c.args.port.now) (g.P.Port.board c.reach_kernel_of.new.port) (g.P.Port.board c.load_space-answer.new.self) c.args.owners.now c.reach_kernel_of.new.owners c.take.new.owners c.args.space c.args.trust c.in_ok-kernel.kernel c.reach_kernel_of.result c.load_space-answer.result c.take.result
    c.reach_kernel_of.ensures.walked c.reach_kernel_of.ensures.reached c.in_ok-kernel.was c.load_space-answer.ensures.call
    (space_taken (g.P.Port.board c.reach_kernel_of.new.port) (g.P.Port.board c.load_space-answer.new.self) c.load_space-answer.result c.reach_kernel_of.new.owners c.take.new.owners c.take.result c.in_ok-kernel.kernel c.args.space c.load_space-answer.ensures.call c.take.ensures.noted c.take.ensures.taken c.take.ensures.same)
    (record { noted = c.take.ensures.noted; taken = c.take.ensures.taken; same = c.take.ensures.same; failed = c.take.ensures.failed })

pub returns-clause-gentle : goal.returns-clause-gentle
returns-clause-gentle g c =
    gentle_on c.args.space (g.P.Port.board c.args.port.now) (g.P.Port.board c.reach_kernel_of.new.port) (g.P.Port.board c.load_space-answer.new.self) c.args.owners.now c.reach_kernel_of.new.owners c.take.new.owners c.reach_kernel_of.ensures.gentle
    (space_gentle (g.P.Port.board c.reach_kernel_of.new.port) (g.P.Port.board c.load_space-answer.new.self) c.reach_kernel_of.new.owners c.take.new.owners c.load_space-answer.result c.args.space
    (space_taken (g.P.Port.board c.reach_kernel_of.new.port) (g.P.Port.board c.load_space-answer.new.self) c.load_space-answer.result c.reach_kernel_of.new.owners c.take.new.owners c.take.result c.in_ok-kernel.kernel c.args.space c.load_space-answer.ensures.call c.take.ensures.noted c.take.ensures.taken c.take.ensures.same)
    c.in_ok-kernel.kernel c.load_space-answer.ensures.call)
