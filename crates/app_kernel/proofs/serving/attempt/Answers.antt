use Rattle.std.proofs.Common.{refl}
use Rattle.app_kernel.proofs.CauseLaws.{ok_from}
use Rattle.app_kernel.proofs.FaultLaws.{tried_again, tried_again_too, tried_confirmed, tried_filled, tried_wanting, tried_wanting_too}
use Rattle.app_kernel.proofs.ServeLaws.{finishes_after, helps_after, more_err, more_ok}
use Rattle.app_kernel.proofs.WalkLaws.{walked_on}
use Rattle.app_kernel.proofs.serving.attempt.Goals as goal

pub returns-in_default-clause-walked : goal.returns-in_default-clause-walked
returns-in_default-clause-walked g c =
    more_err c.walk-in_default.result _ _ (λ w so. walked_on (g.P.Port.board c.args.port.now) (g.P.Port.board c.walk.new.port) (g.P.Port.board c.walk-in_default.new.port) c.args.owners.now c.walk.new.owners c.walk-in_default.new.owners c.in-Err.ensures.walked so) c.walk-in_default.ensures.walked

pub returns-in_default-clause-helped : goal.returns-in_default-clause-helped
returns-in_default-clause-helped g c =
    more_ok c.walk-in_default.result _ _ (λ served so. helps_after (g.P.Port.board c.args.port.now) (g.P.Port.board c.walk.new.port) (g.P.Port.board c.walk-in_default.new.port) c.args.owners.now c.walk.new.owners c.walk-in_default.new.owners c.args.thread c.args.notice served c.in-Err.ensures.walked so) c.walk-in_default.ensures.helped

pub returns-in_default-clause-finished : goal.returns-in_default-clause-finished
returns-in_default-clause-finished g c =
    more_err c.walk-in_default.result _ _ (λ w so. finishes_after (g.P.Port.board c.args.port.now) (g.P.Port.board c.walk.new.port) (g.P.Port.board c.walk-in_default.new.port) c.args.owners.now c.walk.new.owners c.args.thread c.args.notice w c.in-Err.ensures.walked so) (c.walk-in_default.ensures.finished refl)

pub returns-in_default-clause-cause : goal.returns-in_default-clause-cause
returns-in_default-clause-cause g c =
    ok_from c.walk-in_default.new.owners c.args.thread c.args.notice (g.P.Port.heard c.args.port.now) (g.P.Port.heard c.walk.new.port) (g.P.Port.heard c.walk-in_default.new.port) c.walk-in_default.result c.walk.ensures.calls c.walk.ensures.asks c.walk-in_default.ensures.cause

pub returns-in-Ok-clause-fills : goal.returns-in-Ok-clause-fills
returns-in-Ok-clause-fills g c = λ space vpn page. tried_filled (g.P.Port.board c.args.port.now) (g.P.Port.board c.walk.new.port) c.args.owners.now c.walk.new.owners c.args.thread space vpn c.walk.result _ c.in-Ok.served c.in-Ok.is (c.walk.ensures.fills space vpn page)

pub returns-in-NoMemory-clause-fills : goal.returns-in-NoMemory-clause-fills
returns-in-NoMemory-clause-fills g c = λ space vpn page. tried_wanting (g.P.Port.board c.args.port.now) (g.P.Port.board c.walk.new.port) c.args.owners.now c.walk.new.owners c.args.thread space vpn c.walk.result c.in-Err.ensures.walked

pub returns-in_default-clause-fills : goal.returns-in_default-clause-fills
returns-in_default-clause-fills g c = λ space vpn page. tried_again (g.P.Port.board c.args.port.now) (g.P.Port.board c.walk.new.port) c.args.owners.now c.walk.new.owners c.args.thread space vpn c.walk.result (g.P.Port.board c.walk-in_default.new.port) c.walk-in_default.new.owners _ _ c.in-Err.is c.in_default.not-NoMemory c.in-Err.ensures.walked c.walk.ensures.known c.walk-in_default.result (c.walk.ensures.fills space vpn page) (c.walk-in_default.ensures.fills space vpn page)

pub returns-in-Ok-clause-confirms : goal.returns-in-Ok-clause-confirms
returns-in-Ok-clause-confirms g c = λ space vpn page. tried_confirmed (g.P.Port.board c.args.port.now) (g.P.Port.board c.walk.new.port) c.args.owners.now c.walk.new.owners c.args.thread space vpn c.walk.result _ c.in-Ok.served c.in-Ok.is (c.walk.ensures.confirms space vpn page)

pub returns-in-NoMemory-clause-confirms : goal.returns-in-NoMemory-clause-confirms
returns-in-NoMemory-clause-confirms g c = λ space vpn page. tried_wanting_too (g.P.Port.board c.args.port.now) (g.P.Port.board c.walk.new.port) c.args.owners.now c.walk.new.owners c.args.thread space vpn c.walk.result c.in-Err.ensures.walked

pub returns-in_default-clause-confirms : goal.returns-in_default-clause-confirms
returns-in_default-clause-confirms g c = λ space vpn page. tried_again_too (g.P.Port.board c.args.port.now) (g.P.Port.board c.walk.new.port) c.args.owners.now c.walk.new.owners c.args.thread space vpn c.walk.result (g.P.Port.board c.walk-in_default.new.port) c.walk-in_default.new.owners _ _ c.in-Err.is c.in_default.not-NoMemory c.in-Err.ensures.walked c.walk.ensures.known c.walk-in_default.result (c.walk.ensures.confirms space vpn page) (c.walk-in_default.ensures.confirms space vpn page)
