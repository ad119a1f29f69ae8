use Rattle.std.proofs.Common.{arith, rules}
use Rattle.std.proofs.lemmas.Grind.{common_steps}
use Rattle.app_kernel.proofs.ServeLaws.{served_again, served_helped, served_wanting, tried_then}
use Rattle.app_kernel.proofs.StillLaws.{again_confirmed, again_filled, ended_confirmed, ended_filled, served_confirmed, served_filled, since_confirmed, since_filled, still_to_confirm, still_to_fill, wanting_confirmed, wanting_filled}
use Rattle.app_kernel.proofs.WalkLaws.{walked_on}
use Rattle.app_kernel.proofs.serving.serve.Goals as goal

pub returns-in-Ok-clause-told : goal.returns-in-Ok-clause-told
returns-in-Ok-clause-told g c =
    served_helped (g.P.Port.board c.args.port.now) (g.P.Port.board c.has_ended.new.port) (g.P.Port.board c.loop.port) c.args.owners.now c.loop.owners c.args.thread c.args.notice c.has_ended.result c.if-has_ended.false c.has_ended.ensures.told c.loop.invariant.walked (g.P.Port.board c.attempt.new.port) c.attempt.new.owners c.in-Ok.served c.in-Ok.ensures.helped

pub returns-in-NoMemory-clause-told : goal.returns-in-NoMemory-clause-told
returns-in-NoMemory-clause-told g c =
    served_wanting (g.P.Port.board c.args.port.now) (g.P.Port.board c.has_ended.new.port) (g.P.Port.board c.attempt.new.port) c.args.owners.now c.attempt.new.owners c.args.thread c.args.notice c.has_ended.result c.if-has_ended.false c.has_ended.ensures.told (walked_on (g.P.Port.board c.has_ended.new.port) (g.P.Port.board c.loop.port) (g.P.Port.board c.attempt.new.port) c.args.owners.now c.loop.owners c.attempt.new.owners c.loop.invariant.walked c.in-Err.ensures.walked)

pub loop-preserved : goal.loop-preserved
loop-preserved g c = record {
  followed = g.met.P.Port.goes_on c.args.port.now c.loop.port c.attempt.new.port c.loop.invariant.followed c.attempt.ensures.followed;
  calls = first_of (search rules, grind arith, grind (arith, common_steps));
  asks = let first = c.loop.invariant.asks in let second = c.attempt.ensures.asks in omega (arith, first, second);
  last = first_of (search rules, grind arith, grind (arith, common_steps));
  walked = walked_on (g.P.Port.board c.has_ended.new.port) (g.P.Port.board c.loop.port) (g.P.Port.board c.attempt.new.port) c.args.owners.now c.loop.owners c.attempt.new.owners c.loop.invariant.walked c.in-Err.ensures.walked;
  tried = tried_then (g.P.Port.board c.args.port.now) (g.P.Port.board c.has_ended.new.port) (g.P.Port.board c.loop.port) c.args.owners.now c.loop.owners c.args.thread c.args.notice c.has_ended.result c.if-has_ended.false c.has_ended.ensures.told c.loop.invariant.walked (g.P.Port.board c.attempt.new.port) c.in-Err.refused c.in-Err.ensures.finished;
  fills = λ space vpn page. still_to_fill (g.P.Port.board c.args.port.now) (g.P.Port.board c.loop.port) (g.P.Port.board c.attempt.new.port) c.args.owners.now c.loop.owners c.attempt.new.owners c.args.thread space vpn c.loop.last c.in-Err.refused c.attempt.result c.in-Err.is c.in_default.not-NoMemory (c.loop.invariant.fills space vpn page) (c.attempt.ensures.fills space vpn page);
  confirms = λ space vpn page. still_to_confirm (g.P.Port.board c.args.port.now) (g.P.Port.board c.loop.port) (g.P.Port.board c.attempt.new.port) c.args.owners.now c.loop.owners c.attempt.new.owners c.args.thread space vpn c.loop.last c.in-Err.refused c.attempt.result c.in-Err.is c.in_default.not-NoMemory (c.loop.invariant.confirms space vpn page) (c.attempt.ensures.confirms space vpn page);
}

pub returns-clause-told : goal.returns-clause-told
returns-clause-told g c =
    served_again (g.P.Port.board c.args.port.now) (g.P.Port.board c.has_ended.new.port) (g.P.Port.board c.loop.port) c.args.owners.now c.loop.owners c.args.thread c.args.notice c.has_ended.result c.if-has_ended.false c.has_ended.ensures.told c.loop.invariant.walked (g.P.Port.board c.has_ended-2.new.port) c.has_ended-2.result c.has_ended-2.ensures.told c.loop.last c.if-has_ended-2.false c.loop.invariant.tried

pub returns-then-has_ended-clause-filled : goal.returns-then-has_ended-clause-filled
returns-then-has_ended-clause-filled g c = λ space vpn page. ended_filled (g.P.Port.board c.args.port.now) (g.P.Port.board c.has_ended.new.port) c.args.owners.now c.args.thread space vpn c.has_ended.result c.if-has_ended.true c.has_ended.ensures.told

pub returns-in-Ok-clause-filled : goal.returns-in-Ok-clause-filled
returns-in-Ok-clause-filled g c = λ space vpn page. served_filled (g.P.Port.board c.args.port.now) (g.P.Port.board c.has_ended.new.port) (g.P.Port.board c.loop.port) c.args.owners.now c.loop.owners c.args.thread c.has_ended.result c.if-has_ended.false c.has_ended.ensures.told c.loop.invariant.walked space vpn c.loop.last (g.P.Port.board c.attempt.new.port) c.in-Ok.served c.attempt.result c.in-Ok.is (c.loop.invariant.fills space vpn page) (c.attempt.ensures.fills space vpn page)

pub returns-in-NoMemory-clause-filled : goal.returns-in-NoMemory-clause-filled
returns-in-NoMemory-clause-filled g c = λ space vpn page. wanting_filled (g.P.Port.board c.args.port.now) (g.P.Port.board c.has_ended.new.port) (g.P.Port.board c.attempt.new.port) c.args.owners.now c.attempt.new.owners c.args.thread c.has_ended.result c.if-has_ended.false c.has_ended.ensures.told (walked_on (g.P.Port.board c.has_ended.new.port) (g.P.Port.board c.loop.port) (g.P.Port.board c.attempt.new.port) c.args.owners.now c.loop.owners c.attempt.new.owners c.loop.invariant.walked c.in-Err.ensures.walked) space vpn

pub returns-then-has_ended-2-clause-filled : goal.returns-then-has_ended-2-clause-filled
returns-then-has_ended-2-clause-filled g c = λ space vpn page. since_filled (g.P.Port.board c.args.port.now) (g.P.Port.board c.has_ended.new.port) (g.P.Port.board c.loop.port) c.args.owners.now c.loop.owners c.args.thread c.has_ended.result c.if-has_ended.false c.has_ended.ensures.told c.loop.invariant.walked space vpn c.loop.last (g.P.Port.board c.has_ended-2.new.port) c.has_ended-2.result c.has_ended-2.ensures.told c.if-has_ended-2.true

pub returns-clause-filled : goal.returns-clause-filled
returns-clause-filled g c = λ space vpn page. again_filled (g.P.Port.board c.args.port.now) (g.P.Port.board c.has_ended.new.port) (g.P.Port.board c.loop.port) c.args.owners.now c.loop.owners c.args.thread c.has_ended.result c.if-has_ended.false c.has_ended.ensures.told c.loop.invariant.walked space vpn c.loop.last (g.P.Port.board c.has_ended-2.new.port) c.has_ended-2.result c.has_ended-2.ensures.told (c.loop.invariant.fills space vpn page)

pub returns-then-has_ended-clause-confirmed : goal.returns-then-has_ended-clause-confirmed
returns-then-has_ended-clause-confirmed g c = λ space vpn page. ended_confirmed (g.P.Port.board c.args.port.now) (g.P.Port.board c.has_ended.new.port) c.args.owners.now c.args.thread space vpn c.has_ended.result c.if-has_ended.true c.has_ended.ensures.told

pub returns-in-Ok-clause-confirmed : goal.returns-in-Ok-clause-confirmed
returns-in-Ok-clause-confirmed g c = λ space vpn page. served_confirmed (g.P.Port.board c.args.port.now) (g.P.Port.board c.has_ended.new.port) (g.P.Port.board c.loop.port) c.args.owners.now c.loop.owners c.args.thread c.has_ended.result c.if-has_ended.false c.has_ended.ensures.told c.loop.invariant.walked space vpn c.loop.last (g.P.Port.board c.attempt.new.port) c.in-Ok.served c.attempt.result c.in-Ok.is (c.loop.invariant.confirms space vpn page) (c.attempt.ensures.confirms space vpn page)

pub returns-in-NoMemory-clause-confirmed : goal.returns-in-NoMemory-clause-confirmed
returns-in-NoMemory-clause-confirmed g c = λ space vpn page. wanting_confirmed (g.P.Port.board c.args.port.now) (g.P.Port.board c.has_ended.new.port) (g.P.Port.board c.attempt.new.port) c.args.owners.now c.attempt.new.owners c.args.thread c.has_ended.result c.if-has_ended.false c.has_ended.ensures.told (walked_on (g.P.Port.board c.has_ended.new.port) (g.P.Port.board c.loop.port) (g.P.Port.board c.attempt.new.port) c.args.owners.now c.loop.owners c.attempt.new.owners c.loop.invariant.walked c.in-Err.ensures.walked) space vpn

pub returns-then-has_ended-2-clause-confirmed : goal.returns-then-has_ended-2-clause-confirmed
returns-then-has_ended-2-clause-confirmed g c = λ space vpn page. since_confirmed (g.P.Port.board c.args.port.now) (g.P.Port.board c.has_ended.new.port) (g.P.Port.board c.loop.port) c.args.owners.now c.loop.owners c.args.thread c.has_ended.result c.if-has_ended.false c.has_ended.ensures.told c.loop.invariant.walked space vpn c.loop.last (g.P.Port.board c.has_ended-2.new.port) c.has_ended-2.result c.has_ended-2.ensures.told c.if-has_ended-2.true

pub returns-clause-confirmed : goal.returns-clause-confirmed
returns-clause-confirmed g c = λ space vpn page. again_confirmed (g.P.Port.board c.args.port.now) (g.P.Port.board c.has_ended.new.port) (g.P.Port.board c.loop.port) c.args.owners.now c.loop.owners c.args.thread c.has_ended.result c.if-has_ended.false c.has_ended.ensures.told c.loop.invariant.walked space vpn c.loop.last (g.P.Port.board c.has_ended-2.new.port) c.has_ended-2.result c.has_ended-2.ensures.told (c.loop.invariant.confirms space vpn page)
