use Rattle.std.proofs.Common.{◌≡◌, Some, None, ap, sym, ◌∙◌, subst}
use Rattle.std.specs.Prelude.{◌/◌, Err}
use Rattle.std.proofs.lemmas.Option.{same_Some}
use Rattle.std.proofs.lemmas.Result.{err_from_is_err_and}
use Rattle.cache_ident.specs.declared.names.Vpn.{Vpn}
use Rattle.page_laws.specs.board_ops.specs.declared.refusals.Refused.{Refused}
use Rattle.owner_ports.specs.Boards.{OnTold}
use Rattle.app_kernel.specs.Causes.{page_of}
use Rattle.app_kernel.specs.Pages.{Fills}
use Rattle.app_kernel.proofs.CauseLaws.{ok_from}
use Rattle.app_kernel.proofs.FaultLaws.{ConfirmsIn, found_confirmed, found_filled, unfound_unconfirmed, unfound_unfilled}
use Rattle.app_kernel.proofs.ServeLaws.{at_err, fault_finishes, faults_after, found_finishes, more_err, more_ok, traps_after, unfound_finishes}
use Rattle.app_kernel.proofs.WalkLaws.{walked_on}
use Rattle.app_kernel.proofs.serving.walk.Goals as goal

pub returns-in_err-space-clause-finished : goal.returns-in_err-space-clause-finished
returns-in_err-space-clause-finished g c = λ nothing.
    let p = err_from_is_err_and c.from_residual.result c.from_residual.ensures.1 in
    at_err _ c.in_err-space.field-0.0 c.from_residual.result (p.1 ∙ ap (λ (x : Refused). Err x) p.2) (unfound_finishes (g.P.Port.board c.args.port.now) (g.P.Port.board c.reach_thread.new.port) c.args.owners.now c.reach_thread.new.owners c.args.thread c.args.notice c.args.trust c.reach_thread.result c.in_err-space.field-0.0 c.reach_thread.ensures.reached c.in_err-space.was nothing)

pub returns-in-Trap-clause-cause : goal.returns-in-Trap-clause-cause
returns-in-Trap-clause-cause g c =
    ok_from c.complete.new.owners c.args.thread c.args.notice (g.P.Port.heard c.args.port.now) (g.P.Port.heard c.reach_thread.new.port) (g.P.Port.heard c.complete.new.port) c.complete.result c.reach_thread.ensures.calls c.reach_thread.ensures.asks (c.complete.ensures.cause c.args.notice)

pub returns-in-Trap-clause-walked : goal.returns-in-Trap-clause-walked
returns-in-Trap-clause-walked g c =
    more_err c.complete.result _ _ (λ w so. walked_on (g.P.Port.board c.args.port.now) (g.P.Port.board c.reach_thread.new.port) (g.P.Port.board c.complete.new.port) c.args.owners.now c.reach_thread.new.owners c.complete.new.owners c.reach_thread.ensures.walked so) c.complete.ensures.walked

pub returns-in-Trap-clause-helped : goal.returns-in-Trap-clause-helped
returns-in-Trap-clause-helped g c =
    more_ok c.complete.result _ _ (λ served so. traps_after (g.P.Port.board c.args.port.now) (g.P.Port.board c.reach_thread.new.port) (g.P.Port.board c.complete.new.port) c.args.owners.now c.reach_thread.new.owners c.complete.new.owners c.args.thread c.args.notice served c.in-Trap.is c.reach_thread.ensures.walked so) c.complete.ensures.helped

pub returns-in-Trap-clause-finished : goal.returns-in-Trap-clause-finished
returns-in-Trap-clause-finished g c = λ nothing.
    more_err c.complete.result _ _ (λ w so. found_finishes (g.P.Port.board c.args.port.now) (g.P.Port.board c.reach_thread.new.port) (g.P.Port.board c.complete.new.port) c.args.owners.now c.reach_thread.new.owners c.complete.new.owners c.args.thread c.args.notice c.args.trust c.reach_thread.result c.in_ok-space.space w c.reach_thread.ensures.walked c.reach_thread.ensures.reached c.in_ok-space.was nothing so) c.complete.ensures.finished

pub returns-in-Fault-clause-cause : goal.returns-in-Fault-clause-cause
returns-in-Fault-clause-cause g c =
    ok_from c.fill.new.owners c.args.thread c.args.notice (g.P.Port.heard c.args.port.now) (g.P.Port.heard c.reach_thread.new.port) (g.P.Port.heard c.fill.new.port) c.fill.result c.reach_thread.ensures.calls c.reach_thread.ensures.asks (c.fill.ensures.cause c.args.notice (ap page_of c.in-Fault.is))

pub returns-in-Fault-clause-walked : goal.returns-in-Fault-clause-walked
returns-in-Fault-clause-walked g c =
    more_err c.fill.result _ _ (λ w so. walked_on (g.P.Port.board c.args.port.now) (g.P.Port.board c.reach_thread.new.port) (g.P.Port.board c.fill.new.port) c.args.owners.now c.reach_thread.new.owners c.fill.new.owners c.reach_thread.ensures.walked so) c.fill.ensures.walked

pub returns-in-Fault-clause-helped : goal.returns-in-Fault-clause-helped
returns-in-Fault-clause-helped g c =
    more_ok c.fill.result _ _ (λ served so. faults_after (g.P.Port.board c.args.port.now) (g.P.Port.board c.reach_thread.new.port) (g.P.Port.board c.fill.new.port) c.args.owners.now c.reach_thread.new.owners c.fill.new.owners c.args.thread c.args.notice c.in-Fault.va c.in-Fault.access served c.in-Fault.is c.reach_thread.ensures.walked so) (c.fill.ensures.helped c.in-Fault.va c.in-Fault.access)

pub returns-in-Fault-clause-finished : goal.returns-in-Fault-clause-finished
returns-in-Fault-clause-finished g c = λ nothing.
    more_err c.fill.result _ _ (λ w so. fault_finishes (g.P.Port.board c.args.port.now) (g.P.Port.board c.fill.new.port) c.args.owners.now c.fill.new.owners c.args.thread c.args.notice c.in-Fault.va c.in-Fault.access w c.in-Fault.is (walked_on (g.P.Port.board c.args.port.now) (g.P.Port.board c.reach_thread.new.port) (g.P.Port.board c.fill.new.port) c.args.owners.now c.reach_thread.new.owners c.fill.new.owners c.reach_thread.ensures.walked so)) c.fill.ensures.walked

pub returns-in_err-space-clause-fills : goal.returns-in_err-space-clause-fills
returns-in_err-space-clause-fills g c = λ space vpn page.
    let p = err_from_is_err_and c.from_residual.result c.from_residual.ensures.1 in
    unfound_unfilled (g.P.Port.board c.args.port.now) (g.P.Port.board c.reach_thread.new.port) c.args.owners.now c.reach_thread.new.owners c.args.thread space vpn c.args.trust c.reach_thread.result (c.reach_thread.ensures.gentle space) c.reach_thread.ensures.reached c.reach_thread.ensures.walked c.in_err-space.field-0.0 c.from_residual.result c.in_err-space.was (p.1 ∙ ap (λ (x : Refused). Err x) p.2)

pub returns-in_err-space-clause-confirms : goal.returns-in_err-space-clause-confirms
returns-in_err-space-clause-confirms g c = λ space vpn page.
    let p = err_from_is_err_and c.from_residual.result c.from_residual.ensures.1 in
    unfound_unconfirmed (g.P.Port.board c.args.port.now) (g.P.Port.board c.reach_thread.new.port) c.args.owners.now c.reach_thread.new.owners c.args.thread space vpn c.args.trust c.reach_thread.result (c.reach_thread.ensures.gentle space) c.reach_thread.ensures.reached c.reach_thread.ensures.walked c.in_err-space.field-0.0 c.from_residual.result c.in_err-space.was (p.1 ∙ ap (λ (x : Refused). Err x) p.2)

pub returns-in-Trap-clause-fills : goal.returns-in-Trap-clause-fills
returns-in-Trap-clause-fills g c = λ space vpn page. absurd (let clash : None ≡ Some vpn = sym (ap page_of c.in-Trap.is) ∙ page in cc)

pub returns-in-Trap-clause-confirms : goal.returns-in-Trap-clause-confirms
returns-in-Trap-clause-confirms g c = λ space vpn page. absurd (let clash : None ≡ Some vpn = sym (ap page_of c.in-Trap.is) ∙ page in cc)

pub returns-in-Fault-clause-fills : goal.returns-in-Fault-clause-fills
returns-in-Fault-clause-fills g c = λ space vpn page.
    let same = same_Some (record { 0 = c.in-Fault.va / 4096 }) vpn (sym (ap page_of c.in-Fault.is) ∙ page) in
    found_filled (g.P.Port.board c.args.port.now) (g.P.Port.board c.reach_thread.new.port) c.args.owners.now c.reach_thread.new.owners c.args.thread space vpn c.args.trust c.reach_thread.result (c.reach_thread.ensures.gentle space) c.reach_thread.ensures.reached c.reach_thread.ensures.walked c.in_ok-space.space c.in_ok-space.was c.in_ok-space.ensures.learnt (g.P.Port.board c.fill.new.port) c.fill.result (subst (λ (v : Vpn). OnTold (g.P.Port.board c.reach_thread.new.port) (g.P.Port.board c.fill.new.port) (Fills c.in_ok-space.space v c.args.trust c.reach_thread.new.owners c.fill.result)) same c.fill.ensures.fills)

pub returns-in-Fault-clause-confirms : goal.returns-in-Fault-clause-confirms
returns-in-Fault-clause-confirms g c = λ space vpn page.
    let same = same_Some (record { 0 = c.in-Fault.va / 4096 }) vpn (sym (ap page_of c.in-Fault.is) ∙ page) in
    found_confirmed (g.P.Port.board c.args.port.now) (g.P.Port.board c.reach_thread.new.port) c.args.owners.now c.reach_thread.new.owners c.args.thread space vpn c.args.trust c.reach_thread.result (c.reach_thread.ensures.gentle space) c.reach_thread.ensures.reached c.reach_thread.ensures.walked c.in_ok-space.space c.in_ok-space.was c.in_ok-space.ensures.learnt (g.P.Port.board c.fill.new.port) c.fill.result c.fill.new.owners (subst (λ (v : Vpn). OnTold (g.P.Port.board c.reach_thread.new.port) (g.P.Port.board c.fill.new.port) (ConfirmsIn c.in_ok-space.space c.args.thread v c.args.trust c.reach_thread.new.owners c.fill.new.owners c.fill.result)) same c.fill.ensures.confirms)
