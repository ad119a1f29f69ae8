use Rattle.std.proofs.Common.{ap, ◌∙◌, subst}
use Rattle.std.specs.Prelude.{Option, Result, Ok, Err}
use Rattle.std.proofs.lemmas.Result.{err_from_is_err_and}
use Rattle.cache_ident.specs.declared.names.SpaceNo.{SpaceNo}
use Rattle.page_laws.specs.board_ops.specs.declared.refusals.Refused.{Refused}
use Rattle.app_kernel.proofs.FindLaws.{first_wants, found_first, found_second, found_third, second_wants, third_wants}
use Rattle.app_kernel.proofs.GentleCalls.{gentle_first, gentle_second, gentle_third, StaysHome}
use Rattle.owner_ports.specs.Boards.{OnTold}
use Rattle.app_kernel.proofs.walk.reach_thread.Goals as goal

pub returns-in_err-second-clause-reached : goal.returns-in_err-second-clause-reached
returns-in_err-second-clause-reached g c =
    let p = err_from_is_err_and c.from_residual.result c.from_residual.ensures.1 in
    first_wants c.args.owners.now c.args.thread c.args.trust c.first_try-trust.result.0 c.first_try-trust.result.1 (record { known = c.first_try-trust.ensures.known; unknown = c.first_try-trust.ensures.unknown }) (g.P.Port.board c.args.port.now) (g.P.Port.board c.try_space.new.port) c.try_space.new.owners c.try_space.result c.in_err-second.field-0.0 c.from_residual.result c.try_space.ensures.reached c.in_err-second.was (p.1 ∙ ap (λ (x : Refused). Err x) p.2)

pub returns-in_default-clause-reached : goal.returns-in_default-clause-reached
returns-in_default-clause-reached g c =
    found_first c.args.owners.now c.args.thread c.args.trust c.first_try-trust.result.0 c.first_try-trust.result.1 (record { known = c.first_try-trust.ensures.known; unknown = c.first_try-trust.ensures.unknown }) (g.P.Port.board c.args.port.now) (g.P.Port.board c.try_space.new.port) c.try_space.new.owners c.try_space.result c.try_space.ensures.reached (c.in_ok-second.was ∙ ap (λ (x : Option SpaceNo). let r : Result (Option SpaceNo) Refused = Ok x in r) c.in_default.is)

pub returns-in_err-third-clause-reached : goal.returns-in_err-third-clause-reached
returns-in_err-third-clause-reached g c =
    let p = err_from_is_err_and c.from_residual-in_err-third.result c.from_residual-in_err-third.ensures.1 in
    second_wants c.args.owners.now c.args.thread c.args.trust c.first_try-trust.result.0 c.first_try-trust.result.1 (record { known = c.first_try-trust.ensures.known; unknown = c.first_try-trust.ensures.unknown }) (g.P.Port.board c.args.port.now) (g.P.Port.board c.try_space.new.port) c.try_space.new.owners c.in-Some.second c.try_space.result c.try_space.ensures.walked c.try_space.ensures.reached (c.in_ok-second.was ∙ ap (λ (x : Option SpaceNo). let r : Result (Option SpaceNo) Refused = Ok x in r) c.in-Some.is) (g.P.Port.board c.try_space-2.new.port) c.try_space-2.new.owners c.try_space-2.result c.try_space-2.ensures.walked c.try_space-2.ensures.reached c.in_err-third.field-0.0 c.from_residual-in_err-third.result c.in_err-third.was (p.1 ∙ ap (λ (x : Refused). Err x) p.2)

pub returns-in_default-2-clause-reached : goal.returns-in_default-2-clause-reached
returns-in_default-2-clause-reached g c =
    found_second c.args.owners.now c.args.thread c.args.trust c.first_try-trust.result.0 c.first_try-trust.result.1 (record { known = c.first_try-trust.ensures.known; unknown = c.first_try-trust.ensures.unknown }) (g.P.Port.board c.args.port.now) (g.P.Port.board c.try_space.new.port) c.try_space.new.owners c.in-Some.second c.try_space.result c.try_space.ensures.walked c.try_space.ensures.reached (c.in_ok-second.was ∙ ap (λ (x : Option SpaceNo). let r : Result (Option SpaceNo) Refused = Ok x in r) c.in-Some.is) (g.P.Port.board c.try_space-2.new.port) c.try_space-2.new.owners c.try_space-2.result c.try_space-2.ensures.walked c.try_space-2.ensures.reached (c.in_ok-third.was ∙ ap (λ (x : Option SpaceNo). let r : Result (Option SpaceNo) Refused = Ok x in r) c.in_default-2.is)

pub returns-in_err-reach_both-clause-reached : goal.returns-in_err-reach_both-clause-reached
returns-in_err-reach_both-clause-reached g c =
    let p = err_from_is_err_and c.from_residual-in_err-reach_both.result c.from_residual-in_err-reach_both.ensures.1 in
    third_wants c.args.owners.now c.args.thread c.args.trust c.first_try-trust.result.0 c.first_try-trust.result.1 (record { known = c.first_try-trust.ensures.known; unknown = c.first_try-trust.ensures.unknown }) (g.P.Port.board c.args.port.now) (g.P.Port.board c.try_space.new.port) c.try_space.new.owners c.in-Some.second c.try_space.result c.try_space.ensures.walked c.try_space.ensures.reached (c.in_ok-second.was ∙ ap (λ (x : Option SpaceNo). let r : Result (Option SpaceNo) Refused = Ok x in r) c.in-Some.is) (g.P.Port.board c.try_space-2.new.port) c.try_space-2.new.owners c.try_space-2.result c.try_space-2.ensures.walked c.try_space-2.ensures.reached c.in-Some-2.third (c.in_ok-third.was ∙ ap (λ (x : Option SpaceNo). let r : Result (Option SpaceNo) Refused = Ok x in r) c.in-Some-2.is) (g.P.Port.board c.reach_both.new.port) c.reach_both.new.owners c.reach_both.result c.reach_both.ensures.reached c.in_err-reach_both.field-0.0 c.from_residual-in_err-reach_both.result c.in_err-reach_both.was (p.1 ∙ ap (λ (x : Refused). Err x) p.2)

pub returns-clause-reached : goal.returns-clause-reached
returns-clause-reached g c =
    found_third c.args.owners.now c.args.thread c.args.trust c.first_try-trust.result.0 c.first_try-trust.result.1 (record { known = c.first_try-trust.ensures.known; unknown = c.first_try-trust.ensures.unknown }) (g.P.Port.board c.args.port.now) (g.P.Port.board c.try_space.new.port) c.try_space.new.owners c.in-Some.second c.try_space.result c.try_space.ensures.walked c.try_space.ensures.reached (c.in_ok-second.was ∙ ap (λ (x : Option SpaceNo). let r : Result (Option SpaceNo) Refused = Ok x in r) c.in-Some.is) (g.P.Port.board c.try_space-2.new.port) c.try_space-2.new.owners c.try_space-2.result c.try_space-2.ensures.walked c.try_space-2.ensures.reached c.in-Some-2.third (c.in_ok-third.was ∙ ap (λ (x : Option SpaceNo). let r : Result (Option SpaceNo) Refused = Ok x in r) c.in-Some-2.is) (g.P.Port.board c.reach_both.new.port) c.reach_both.new.owners c.reach_both.result c.reach_both.ensures.reached _ c.in_ok-reach_both.was

pub returns-in_err-second-clause-gentle : goal.returns-in_err-second-clause-gentle
returns-in_err-second-clause-gentle g c = λ space known.
    gentle_first c.args.owners.now c.args.thread c.args.trust c.first_try-trust.result.0 c.first_try-trust.result.1 (record { known = c.first_try-trust.ensures.known; unknown = c.first_try-trust.ensures.unknown }) space known (g.P.Port.board c.args.port.now) (g.P.Port.board c.try_space.new.port) c.try_space.new.owners c.try_space.ensures.gentle

pub returns-in_default-clause-gentle : goal.returns-in_default-clause-gentle
returns-in_default-clause-gentle g c = λ space known.
    gentle_first c.args.owners.now c.args.thread c.args.trust c.first_try-trust.result.0 c.first_try-trust.result.1 (record { known = c.first_try-trust.ensures.known; unknown = c.first_try-trust.ensures.unknown }) space known (g.P.Port.board c.args.port.now) (g.P.Port.board c.try_space.new.port) c.try_space.new.owners c.try_space.ensures.gentle

pub returns-in_err-third-clause-gentle : goal.returns-in_err-third-clause-gentle
returns-in_err-third-clause-gentle g c = λ space known.
    gentle_second c.args.owners.now c.args.thread c.args.trust c.first_try-trust.result.0 c.first_try-trust.result.1 (record { known = c.first_try-trust.ensures.known; unknown = c.first_try-trust.ensures.unknown }) space known (g.P.Port.board c.args.port.now) (g.P.Port.board c.try_space.new.port) c.try_space.new.owners c.in-Some.second c.try_space.ensures.gentle (subst (λ (told : Option SpaceNo). OnTold (g.P.Port.board c.args.port.now) (g.P.Port.board c.try_space.new.port) (StaysHome c.args.owners.now c.first_try-trust.result.0 c.args.thread told)) c.in-Some.is c.in_ok-second.ensures.mine)
    (g.P.Port.board c.try_space-2.new.port) c.try_space-2.new.owners c.try_space-2.ensures.gentle

pub returns-in_default-2-clause-gentle : goal.returns-in_default-2-clause-gentle
returns-in_default-2-clause-gentle g c = λ space known.
    gentle_second c.args.owners.now c.args.thread c.args.trust c.first_try-trust.result.0 c.first_try-trust.result.1 (record { known = c.first_try-trust.ensures.known; unknown = c.first_try-trust.ensures.unknown }) space known (g.P.Port.board c.args.port.now) (g.P.Port.board c.try_space.new.port) c.try_space.new.owners c.in-Some.second c.try_space.ensures.gentle (subst (λ (told : Option SpaceNo). OnTold (g.P.Port.board c.args.port.now) (g.P.Port.board c.try_space.new.port) (StaysHome c.args.owners.now c.first_try-trust.result.0 c.args.thread told)) c.in-Some.is c.in_ok-second.ensures.mine)
    (g.P.Port.board c.try_space-2.new.port) c.try_space-2.new.owners c.try_space-2.ensures.gentle

pub returns-in_err-reach_both-clause-gentle : goal.returns-in_err-reach_both-clause-gentle
returns-in_err-reach_both-clause-gentle g c = λ space known.
    gentle_third c.args.owners.now c.args.thread c.args.trust c.first_try-trust.result.0 c.first_try-trust.result.1 (record { known = c.first_try-trust.ensures.known; unknown = c.first_try-trust.ensures.unknown }) space known (g.P.Port.board c.args.port.now) (g.P.Port.board c.try_space.new.port) c.try_space.new.owners c.in-Some.second c.try_space.ensures.gentle (subst (λ (told : Option SpaceNo). OnTold (g.P.Port.board c.args.port.now) (g.P.Port.board c.try_space.new.port) (StaysHome c.args.owners.now c.first_try-trust.result.0 c.args.thread told)) c.in-Some.is c.in_ok-second.ensures.mine)
    (g.P.Port.board c.try_space-2.new.port) (g.P.Port.board c.reach_both.new.port) c.try_space-2.new.owners c.reach_both.new.owners c.in-Some-2.third c.try_space-2.ensures.gentle c.reach_both.ensures.gentle

pub returns-clause-gentle : goal.returns-clause-gentle
returns-clause-gentle g c = λ space known.
    gentle_third c.args.owners.now c.args.thread c.args.trust c.first_try-trust.result.0 c.first_try-trust.result.1 (record { known = c.first_try-trust.ensures.known; unknown = c.first_try-trust.ensures.unknown }) space known (g.P.Port.board c.args.port.now) (g.P.Port.board c.try_space.new.port) c.try_space.new.owners c.in-Some.second c.try_space.ensures.gentle (subst (λ (told : Option SpaceNo). OnTold (g.P.Port.board c.args.port.now) (g.P.Port.board c.try_space.new.port) (StaysHome c.args.owners.now c.first_try-trust.result.0 c.args.thread told)) c.in-Some.is c.in_ok-second.ensures.mine)
    (g.P.Port.board c.try_space-2.new.port) (g.P.Port.board c.reach_both.new.port) c.try_space-2.new.owners c.reach_both.new.owners c.in-Some-2.third c.try_space-2.ensures.gentle c.reach_both.ensures.gentle

pub returns-in_err-third-clause-known : goal.returns-in_err-third-clause-known
returns-in_err-third-clause-known g c = λ known. c.try_space-2.ensures.known (c.try_space.ensures.known known)

pub returns-in_default-2-clause-known : goal.returns-in_default-2-clause-known
returns-in_default-2-clause-known g c = λ known. c.try_space-2.ensures.known (c.try_space.ensures.known known)

pub returns-in_err-reach_both-clause-known : goal.returns-in_err-reach_both-clause-known
returns-in_err-reach_both-clause-known g c = λ known. c.reach_both.ensures.known (c.try_space-2.ensures.known (c.try_space.ensures.known known))

pub returns-clause-known : goal.returns-clause-known
returns-clause-known g c = λ known. c.reach_both.ensures.known (c.try_space-2.ensures.known (c.try_space.ensures.known known))
