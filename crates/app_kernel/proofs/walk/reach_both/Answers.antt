use Rattle.std.proofs.Common.{ap, ◌∙◌}
use Rattle.std.specs.Prelude.{Err}
use Rattle.std.proofs.lemmas.Result.{err_from_is_err_and}
use Rattle.page_laws.specs.board_ops.specs.declared.refusals.Refused.{Refused}
use Rattle.app_kernel.proofs.ReachLaws.{both_away, both_reached, both_unlearnt, both_unreached, both_walked, passed_at}
use Rattle.app_kernel.proofs.WalkLaws.{walked_on}
use Rattle.app_kernel.proofs.GentleCalls.{known_same}
use Rattle.app_kernel.proofs.GentleLaws.{gentle_on, gentle_with}
use Rattle.app_kernel.proofs.walk.reach_both.Goals as goal

pub returns-in_err-reach_space-clause-reached : goal.returns-in_err-reach_space-clause-reached
returns-in_err-reach_space-clause-reached g c =
    let p = err_from_is_err_and c.from_residual.result c.from_residual.ensures.1 in
    both_unreached (g.P.Port.board c.args.port.now) (g.P.Port.board c.reach_space.new.port) c.args.owners.now c.reach_space.new.owners c.args.space c.args.thread c.args.trust c.in_err-reach_space.field-0.0 c.reach_space.result c.from_residual.result c.reach_space.ensures.reached c.in_err-reach_space.was (p.1 ∙ ap (λ (x : Refused). Err x) p.2)

pub returns-in_err-reach_thread_in-clause-walked : goal.returns-in_err-reach_thread_in-clause-walked
returns-in_err-reach_thread_in-clause-walked g c = walked_on (g.P.Port.board c.args.port.now) (g.P.Port.board c.reach_space.new.port) (g.P.Port.board c.reach_thread_in.new.port) c.args.owners.now c.reach_space.new.owners c.reach_thread_in.new.owners c.reach_space.ensures.walked c.reach_thread_in.ensures.walked

pub returns-in_err-reach_thread_in-clause-reached : goal.returns-in_err-reach_thread_in-clause-reached
returns-in_err-reach_thread_in-clause-reached g c =
    let p = err_from_is_err_and c.from_residual-in_err-reach_thread_in.result c.from_residual-in_err-reach_thread_in.ensures.1 in
    both_away (g.P.Port.board c.args.port.now) (g.P.Port.board c.reach_space.new.port) (g.P.Port.board c.reach_thread_in.new.port) c.args.owners.now c.reach_space.new.owners c.reach_thread_in.new.owners c.args.space c.args.thread c.args.trust _ c.reach_space.result c.reach_thread_in.result c.reach_space.ensures.walked c.reach_space.ensures.reached c.in_ok-reach_space.was c.reach_thread_in.ensures.reached c.in_err-reach_thread_in.field-0.0 c.from_residual-in_err-reach_thread_in.result c.in_err-reach_thread_in.was (p.1 ∙ ap (λ (x : Refused). Err x) p.2)

pub returns-in_err-learn_reached-clause-walked : goal.returns-in_err-learn_reached-clause-walked
returns-in_err-learn_reached-clause-walked g c =
    both_walked (g.P.Port.board c.args.port.now) (g.P.Port.board c.reach_space.new.port) (g.P.Port.board c.reach_thread_in.new.port) c.args.owners.now c.reach_space.new.owners c.reach_thread_in.new.owners c.learn_reached.new.owners c.args.space c.args.thread c.args.trust c.reach_space.ensures.walked c.reach_thread_in.ensures.walked (passed_at c.reach_thread_in.result _ c.in_ok-reach_thread_in.was c.reach_thread_in.ensures.passed) c.learn_reached.ensures.owned

pub returns-in_err-learn_reached-clause-reached : goal.returns-in_err-learn_reached-clause-reached
returns-in_err-learn_reached-clause-reached g c =
    let p = err_from_is_err_and c.from_residual-in_err-learn_reached.result c.from_residual-in_err-learn_reached.ensures.1 in
    both_unlearnt (g.P.Port.board c.args.port.now) (g.P.Port.board c.reach_space.new.port) (g.P.Port.board c.reach_thread_in.new.port) c.args.owners.now c.reach_space.new.owners c.reach_thread_in.new.owners c.args.space c.args.thread c.args.trust _ c.reach_space.result c.reach_thread_in.result c.reach_space.ensures.walked c.reach_space.ensures.reached c.in_ok-reach_space.was c.reach_thread_in.ensures.reached p.0 c.learn_reached.new.owners c.from_residual-in_err-learn_reached.result p.2 p.1

pub returns-clause-walked : goal.returns-clause-walked
returns-clause-walked g c =
    both_walked (g.P.Port.board c.args.port.now) (g.P.Port.board c.reach_space.new.port) (g.P.Port.board c.reach_thread_in.new.port) c.args.owners.now c.reach_space.new.owners c.reach_thread_in.new.owners c.learn_reached.new.owners c.args.space c.args.thread c.args.trust c.reach_space.ensures.walked c.reach_thread_in.ensures.walked (passed_at c.reach_thread_in.result _ c.in_ok-reach_thread_in.was c.reach_thread_in.ensures.passed) c.learn_reached.ensures.owned

pub returns-clause-reached : goal.returns-clause-reached
returns-clause-reached g c =
    both_reached (g.P.Port.board c.args.port.now) (g.P.Port.board c.reach_space.new.port) (g.P.Port.board c.reach_thread_in.new.port) c.args.owners.now c.reach_space.new.owners c.reach_thread_in.new.owners c.args.space c.args.thread c.args.trust _ c.reach_space.result c.reach_thread_in.result c.reach_space.ensures.walked c.reach_space.ensures.reached c.in_ok-reach_space.was c.reach_thread_in.ensures.reached _ c.learn_reached.new.owners c.in_ok-reach_thread_in.was c.learn_reached.ensures.idents

pub returns-in_err-reach_thread_in-clause-gentle : goal.returns-in_err-reach_thread_in-clause-gentle
returns-in_err-reach_thread_in-clause-gentle g c = gentle_on c.args.space (g.P.Port.board c.args.port.now) (g.P.Port.board c.reach_space.new.port) (g.P.Port.board c.reach_thread_in.new.port) c.args.owners.now c.reach_space.new.owners c.reach_thread_in.new.owners c.reach_space.ensures.gentle c.reach_thread_in.ensures.gentle

pub returns-in_err-learn_reached-clause-gentle : goal.returns-in_err-learn_reached-clause-gentle
returns-in_err-learn_reached-clause-gentle g c =
    gentle_with c.args.space (g.P.Port.board c.args.port.now) (g.P.Port.board c.reach_thread_in.new.port) c.args.owners.now c.reach_thread_in.new.owners c.learn_reached.new.owners
    (gentle_on c.args.space (g.P.Port.board c.args.port.now) (g.P.Port.board c.reach_space.new.port) (g.P.Port.board c.reach_thread_in.new.port) c.args.owners.now c.reach_space.new.owners c.reach_thread_in.new.owners c.reach_space.ensures.gentle c.reach_thread_in.ensures.gentle)
    (both_walked (g.P.Port.board c.args.port.now) (g.P.Port.board c.reach_space.new.port) (g.P.Port.board c.reach_thread_in.new.port) c.args.owners.now c.reach_space.new.owners c.reach_thread_in.new.owners c.learn_reached.new.owners c.args.space c.args.thread c.args.trust c.reach_space.ensures.walked c.reach_thread_in.ensures.walked (passed_at c.reach_thread_in.result _ c.in_ok-reach_thread_in.was c.reach_thread_in.ensures.passed) c.learn_reached.ensures.owned)

pub returns-clause-gentle : goal.returns-clause-gentle
returns-clause-gentle g c =
    gentle_with c.args.space (g.P.Port.board c.args.port.now) (g.P.Port.board c.reach_thread_in.new.port) c.args.owners.now c.reach_thread_in.new.owners c.learn_reached.new.owners
    (gentle_on c.args.space (g.P.Port.board c.args.port.now) (g.P.Port.board c.reach_space.new.port) (g.P.Port.board c.reach_thread_in.new.port) c.args.owners.now c.reach_space.new.owners c.reach_thread_in.new.owners c.reach_space.ensures.gentle c.reach_thread_in.ensures.gentle)
    (both_walked (g.P.Port.board c.args.port.now) (g.P.Port.board c.reach_space.new.port) (g.P.Port.board c.reach_thread_in.new.port) c.args.owners.now c.reach_space.new.owners c.reach_thread_in.new.owners c.learn_reached.new.owners c.args.space c.args.thread c.args.trust c.reach_space.ensures.walked c.reach_thread_in.ensures.walked (passed_at c.reach_thread_in.result _ c.in_ok-reach_thread_in.was c.reach_thread_in.ensures.passed) c.learn_reached.ensures.owned)

pub returns-in_err-reach_space-clause-known : goal.returns-in_err-reach_space-clause-known
returns-in_err-reach_space-clause-known g c = λ known. known_same c.args.owners.now c.reach_space.new.owners c.args.thread c.reach_space.ensures.threads known

pub returns-in_err-reach_thread_in-clause-known : goal.returns-in_err-reach_thread_in-clause-known
returns-in_err-reach_thread_in-clause-known g c = λ known. known_same c.reach_space.new.owners c.reach_thread_in.new.owners c.args.thread c.reach_thread_in.ensures.threads (known_same c.args.owners.now c.reach_space.new.owners c.args.thread c.reach_space.ensures.threads known)

pub returns-in_err-learn_reached-clause-known : goal.returns-in_err-learn_reached-clause-known
returns-in_err-learn_reached-clause-known g c = λ known. c.learn_reached.ensures.known (known_same c.reach_space.new.owners c.reach_thread_in.new.owners c.args.thread c.reach_thread_in.ensures.threads (known_same c.args.owners.now c.reach_space.new.owners c.args.thread c.reach_space.ensures.threads known))

pub returns-clause-known : goal.returns-clause-known
returns-clause-known g c = λ known. c.learn_reached.ensures.known (known_same c.reach_space.new.owners c.reach_thread_in.new.owners c.args.thread c.reach_thread_in.ensures.threads (known_same c.args.owners.now c.reach_space.new.owners c.args.thread c.reach_space.ensures.threads known))
