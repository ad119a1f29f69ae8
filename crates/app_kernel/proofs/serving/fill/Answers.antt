use Rattle.std.proofs.Common.{ap, ◌∙◌}
use Rattle.std.specs.Prelude.{Err, Ok, Result}
use Rattle.cache_ident.specs.declared.idents.Ident.{Ident}
use Rattle.std.proofs.lemmas.Result.{err_from_is_err_and}
use Rattle.page_laws.specs.board_ops.specs.declared.refusals.Refused.{Refused}
use Rattle.fault_forward.specs.declared.effects.Notice.TheVariants as notices
use Rattle.app_kernel.proofs.CauseLaws.{ok_from}
use Rattle.app_kernel.proofs.FaultLaws.{confirmed_behind, confirmed_fill, filled, filled_never, something_to_load, unconfirmed, unconfirmed_so, unfilled, unfilled_so}
use Rattle.app_kernel.proofs.ServeLaws.{goes_on_so, helps_after, more_ok}
use Rattle.app_kernel.proofs.serving.fill.Goals as goal

pub returns-in-AlreadyLoaded-clause-cause : goal.returns-in-AlreadyLoaded-clause-cause
returns-in-AlreadyLoaded-clause-cause g c = λ notice page.
    ok_from c.confirm.new.owners c.args.thread notice (g.P.Port.heard c.args.port.now) (g.P.Port.heard c.load_message_row.new.port) (g.P.Port.heard c.confirm.new.port) c.confirm.result c.load_message_row.ensures.calls c.load_message_row.ensures.asks (c.confirm.ensures.cause notice)

pub returns-in-NotDeclared-clause-cause : goal.returns-in-NotDeclared-clause-cause
returns-in-NotDeclared-clause-cause g c = λ notice page.
    ok_from c.confirm-in-NotDeclared.new.owners c.args.thread notice (g.P.Port.heard c.args.port.now) (g.P.Port.heard c.load_message_row.new.port) (g.P.Port.heard c.confirm-in-NotDeclared.new.port) c.confirm-in-NotDeclared.result c.load_message_row.ensures.calls c.load_message_row.ensures.asks (c.confirm-in-NotDeclared.ensures.cause notice)

pub returns-in-Rights-clause-cause : goal.returns-in-Rights-clause-cause
returns-in-Rights-clause-cause g c = λ notice page.
    ok_from c.confirm-in-Rights.new.owners c.args.thread notice (g.P.Port.heard c.args.port.now) (g.P.Port.heard c.load_message_row.new.port) (g.P.Port.heard c.confirm-in-Rights.new.port) c.confirm-in-Rights.result c.load_message_row.ensures.calls c.load_message_row.ensures.asks (c.confirm-in-Rights.ensures.cause notice)

pub returns-in-Ok-clause-helped : goal.returns-in-Ok-clause-helped
returns-in-Ok-clause-helped g c = λ va access. goes_on_so (g.P.Port.board c.args.port.now) (g.P.Port.board c.load_message_row.new.port) c.args.owners.now c.load_message_row.new.owners c.args.thread va access c.load_message_row.ensures.walked

pub returns-in-AlreadyLoaded-clause-helped : goal.returns-in-AlreadyLoaded-clause-helped
returns-in-AlreadyLoaded-clause-helped g c = λ va access.
    more_ok c.confirm.result _ _ (λ served so. helps_after (g.P.Port.board c.args.port.now) (g.P.Port.board c.load_message_row.new.port) (g.P.Port.board c.confirm.new.port) c.args.owners.now c.load_message_row.new.owners c.confirm.new.owners c.args.thread (notices.Fault va access) served c.load_message_row.ensures.walked so) (c.confirm.ensures.helped va access)

pub returns-in-NotDeclared-clause-helped : goal.returns-in-NotDeclared-clause-helped
returns-in-NotDeclared-clause-helped g c = λ va access.
    more_ok c.confirm-in-NotDeclared.result _ _ (λ served so. helps_after (g.P.Port.board c.args.port.now) (g.P.Port.board c.load_message_row.new.port) (g.P.Port.board c.confirm-in-NotDeclared.new.port) c.args.owners.now c.load_message_row.new.owners c.confirm-in-NotDeclared.new.owners c.args.thread (notices.Fault va access) served c.load_message_row.ensures.walked so) (c.confirm-in-NotDeclared.ensures.helped va access)

pub returns-in-Rights-clause-helped : goal.returns-in-Rights-clause-helped
returns-in-Rights-clause-helped g c = λ va access.
    more_ok c.confirm-in-Rights.result _ _ (λ served so. helps_after (g.P.Port.board c.args.port.now) (g.P.Port.board c.load_message_row.new.port) (g.P.Port.board c.confirm-in-Rights.new.port) c.args.owners.now c.load_message_row.new.owners c.confirm-in-Rights.new.owners c.args.thread (notices.Fault va access) served c.load_message_row.ensures.walked so) (c.confirm-in-Rights.ensures.helped va access)

pub returns-in_err-load_message_row-clause-fills : goal.returns-in_err-load_message_row-clause-fills
returns-in_err-load_message_row-clause-fills g c =
    let p = err_from_is_err_and c.from_residual.result c.from_residual.ensures.1 in
    unfilled (g.P.Port.board c.args.port.now) (g.P.Port.board c.load_message_row.new.port) c.args.owners.now c.load_message_row.new.owners c.args.space c.args.thread c.args.vpn c.args.trust c.load_message_row.result c.in_err-load_message_row.field-0.0 c.from_residual.result c.load_message_row.ensures.fills c.in_err-load_message_row.was (p.1 ∙ ap (λ (x : Refused). Err x) p.2)

pub returns-in_err-load_message_row-clause-confirms : goal.returns-in_err-load_message_row-clause-confirms
returns-in_err-load_message_row-clause-confirms g c =
    let p = err_from_is_err_and c.from_residual.result c.from_residual.ensures.1 in
    unconfirmed (g.P.Port.board c.args.port.now) (g.P.Port.board c.load_message_row.new.port) c.args.owners.now c.load_message_row.new.owners c.args.space c.args.thread c.args.vpn c.args.trust c.load_message_row.result c.in_err-load_message_row.field-0.0 c.from_residual.result c.load_message_row.ensures.vain c.in_err-load_message_row.was (p.1 ∙ ap (λ (x : Refused). Err x) p.2)

pub returns-in-Ok-clause-fills : goal.returns-in-Ok-clause-fills
returns-in-Ok-clause-fills g c = filled (g.P.Port.board c.args.port.now) (g.P.Port.board c.load_message_row.new.port) c.args.owners.now c.load_message_row.new.owners c.args.space c.args.thread c.args.vpn c.args.trust c.load_message_row.result _ (c.in_ok-load_message_row.was ∙ ap (λ (x : Result Ident Refused). let r : Result (Result Ident Refused) Refused = Ok x in r) c.in-Ok.is) c.load_message_row.ensures.fills

pub returns-in-Ok-clause-confirms : goal.returns-in-Ok-clause-confirms
returns-in-Ok-clause-confirms g c = filled_never (g.P.Port.board c.args.port.now) (g.P.Port.board c.load_message_row.new.port) c.args.owners.now c.load_message_row.new.owners c.args.space c.args.thread c.args.vpn c.args.trust c.load_message_row.result _ (c.in_ok-load_message_row.was ∙ ap (λ (x : Result Ident Refused). let r : Result (Result Ident Refused) Refused = Ok x in r) c.in-Ok.is) c.load_message_row.ensures.vain

pub returns-in-AlreadyLoaded-clause-fills : goal.returns-in-AlreadyLoaded-clause-fills
returns-in-AlreadyLoaded-clause-fills g c = confirmed_fill (g.P.Port.board c.args.port.now) (g.P.Port.board c.load_message_row.new.port) c.args.owners.now c.load_message_row.new.owners c.args.space c.args.thread c.args.vpn c.args.trust c.load_message_row.result _ (c.in_ok-load_message_row.was ∙ ap (λ (x : Result Ident Refused). let r : Result (Result Ident Refused) Refused = Ok x in r) (c.in-Err.is ∙ ap (λ (x : Refused). let r : Result Ident Refused = Err x in r) c.in-AlreadyLoaded.is)) (g.P.Port.board c.confirm.new.port) c.confirm.new.owners c.confirm.result tt c.load_message_row.ensures.fills c.confirm.ensures.confirms

pub returns-in-AlreadyLoaded-clause-confirms : goal.returns-in-AlreadyLoaded-clause-confirms
returns-in-AlreadyLoaded-clause-confirms g c = confirmed_behind (g.P.Port.board c.args.port.now) (g.P.Port.board c.load_message_row.new.port) c.args.owners.now c.load_message_row.new.owners c.args.space c.args.thread c.args.vpn c.args.trust c.load_message_row.result _ (c.in_ok-load_message_row.was ∙ ap (λ (x : Result Ident Refused). let r : Result (Result Ident Refused) Refused = Ok x in r) (c.in-Err.is ∙ ap (λ (x : Refused). let r : Result Ident Refused = Err x in r) c.in-AlreadyLoaded.is)) (g.P.Port.board c.confirm.new.port) c.confirm.new.owners c.confirm.result c.load_message_row.ensures.vain c.confirm.ensures.confirms

pub returns-in-NotDeclared-clause-fills : goal.returns-in-NotDeclared-clause-fills
returns-in-NotDeclared-clause-fills g c = confirmed_fill (g.P.Port.board c.args.port.now) (g.P.Port.board c.load_message_row.new.port) c.args.owners.now c.load_message_row.new.owners c.args.space c.args.thread c.args.vpn c.args.trust c.load_message_row.result _ (c.in_ok-load_message_row.was ∙ ap (λ (x : Result Ident Refused). let r : Result (Result Ident Refused) Refused = Ok x in r) (c.in-Err.is ∙ ap (λ (x : Refused). let r : Result Ident Refused = Err x in r) c.in-NotDeclared.is)) (g.P.Port.board c.confirm-in-NotDeclared.new.port) c.confirm-in-NotDeclared.new.owners c.confirm-in-NotDeclared.result tt c.load_message_row.ensures.fills c.confirm-in-NotDeclared.ensures.confirms

pub returns-in-NotDeclared-clause-confirms : goal.returns-in-NotDeclared-clause-confirms
returns-in-NotDeclared-clause-confirms g c = confirmed_behind (g.P.Port.board c.args.port.now) (g.P.Port.board c.load_message_row.new.port) c.args.owners.now c.load_message_row.new.owners c.args.space c.args.thread c.args.vpn c.args.trust c.load_message_row.result _ (c.in_ok-load_message_row.was ∙ ap (λ (x : Result Ident Refused). let r : Result (Result Ident Refused) Refused = Ok x in r) (c.in-Err.is ∙ ap (λ (x : Refused). let r : Result Ident Refused = Err x in r) c.in-NotDeclared.is)) (g.P.Port.board c.confirm-in-NotDeclared.new.port) c.confirm-in-NotDeclared.new.owners c.confirm-in-NotDeclared.result c.load_message_row.ensures.vain c.confirm-in-NotDeclared.ensures.confirms

pub returns-in-Rights-clause-fills : goal.returns-in-Rights-clause-fills
returns-in-Rights-clause-fills g c = confirmed_fill (g.P.Port.board c.args.port.now) (g.P.Port.board c.load_message_row.new.port) c.args.owners.now c.load_message_row.new.owners c.args.space c.args.thread c.args.vpn c.args.trust c.load_message_row.result _ (c.in_ok-load_message_row.was ∙ ap (λ (x : Result Ident Refused). let r : Result (Result Ident Refused) Refused = Ok x in r) (c.in-Err.is ∙ ap (λ (x : Refused). let r : Result Ident Refused = Err x in r) c.in-Rights.is)) (g.P.Port.board c.confirm-in-Rights.new.port) c.confirm-in-Rights.new.owners c.confirm-in-Rights.result tt c.load_message_row.ensures.fills c.confirm-in-Rights.ensures.confirms

pub returns-in-Rights-clause-confirms : goal.returns-in-Rights-clause-confirms
returns-in-Rights-clause-confirms g c = confirmed_behind (g.P.Port.board c.args.port.now) (g.P.Port.board c.load_message_row.new.port) c.args.owners.now c.load_message_row.new.owners c.args.space c.args.thread c.args.vpn c.args.trust c.load_message_row.result _ (c.in_ok-load_message_row.was ∙ ap (λ (x : Result Ident Refused). let r : Result (Result Ident Refused) Refused = Ok x in r) (c.in-Err.is ∙ ap (λ (x : Refused). let r : Result Ident Refused = Err x in r) c.in-Rights.is)) (g.P.Port.board c.confirm-in-Rights.new.port) c.confirm-in-Rights.new.owners c.confirm-in-Rights.result c.load_message_row.ensures.vain c.confirm-in-Rights.ensures.confirms

pub returns-in_default-clause-fills : goal.returns-in_default-clause-fills
returns-in_default-clause-fills g c = unfilled_so (g.P.Port.board c.args.port.now) (g.P.Port.board c.load_message_row.new.port) c.args.owners.now c.load_message_row.new.owners c.args.space c.args.thread c.args.vpn c.args.trust c.load_message_row.result c.in-Err.refused (c.in_ok-load_message_row.was ∙ ap (λ (x : Result Ident Refused). let r : Result (Result Ident Refused) Refused = Ok x in r) c.in-Err.is) c.load_message_row.ensures.fills

pub returns-in_default-clause-confirms : goal.returns-in_default-clause-confirms
returns-in_default-clause-confirms g c = unconfirmed_so (g.P.Port.board c.args.port.now) (g.P.Port.board c.load_message_row.new.port) c.args.owners.now c.load_message_row.new.owners c.args.space c.args.thread c.args.vpn c.args.trust c.load_message_row.result c.in-Err.refused (c.in_ok-load_message_row.was ∙ ap (λ (x : Result Ident Refused). let r : Result (Result Ident Refused) Refused = Ok x in r) c.in-Err.is) (something_to_load c.in-Err.refused c.in_default.not-AlreadyLoaded c.in_default.not-NotDeclared c.in_default.not-Rights) c.load_message_row.ensures.vain
