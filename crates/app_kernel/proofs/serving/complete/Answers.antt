use Rattle.std.proofs.Common.{◌≡◌, true, false, refl, ap, sym, ◌∙◌}
use Rattle.std.specs.Prelude.{Err}
use Rattle.std.proofs.lemmas.Result.{err_from_is_err_and}
use Rattle.page_laws.specs.board_ops.specs.declared.refusals.Refused.{Refused}
use Rattle.app_kernel.specs.declared.serving.Served.TheVariants as served
use Rattle.app_kernel.proofs.ServeLaws.{at_err, call_finishes, complete_helps, complete_refused, kernel_finishes, thread_finishes}
use Rattle.app_kernel.proofs.WalkLaws.{walked_on}
use Rattle.app_kernel.proofs.serving.complete.Goals as goal

pub returns-in_err-kernel-clause-finished : goal.returns-in_err-kernel-clause-finished
returns-in_err-kernel-clause-finished g c =
    let p = err_from_is_err_and c.from_residual.result c.from_residual.ensures.1 in
    at_err _ c.in_err-kernel.field-0.0 c.from_residual.result (p.1 ∙ ap (λ (x : Refused). Err x) p.2) (kernel_finishes (g.P.Port.board c.args.port.now) (g.P.Port.board c.reach_kernel_of.new.port) c.args.owners.now c.reach_kernel_of.new.owners c.args.space c.args.thread c.in_err-kernel.field-0.0 c.reach_kernel_of.result (c.reach_kernel_of.ensures.had refl) c.in_err-kernel.was c.reach_kernel_of.ensures.walked)

pub returns-in_err-ident-clause-walked : goal.returns-in_err-ident-clause-walked
returns-in_err-ident-clause-walked g c =
    let p = err_from_is_err_and c.from_residual-in_err-ident.result c.from_residual-in_err-ident.ensures.1 in
    at_err _ c.in_err-ident.field-0.0 c.from_residual-in_err-ident.result (p.1 ∙ ap (λ (x : Refused). Err x) p.2) (walked_on (g.P.Port.board c.args.port.now) (g.P.Port.board c.reach_kernel_of.new.port) (g.P.Port.board c.reach_thread_in.new.port) c.args.owners.now c.reach_kernel_of.new.owners c.reach_thread_in.new.owners c.reach_kernel_of.ensures.walked c.reach_thread_in.ensures.walked)

pub returns-in_err-ident-clause-finished : goal.returns-in_err-ident-clause-finished
returns-in_err-ident-clause-finished g c =
    let p = err_from_is_err_and c.from_residual-in_err-ident.result c.from_residual-in_err-ident.ensures.1 in
    at_err _ c.in_err-ident.field-0.0 c.from_residual-in_err-ident.result (p.1 ∙ ap (λ (x : Refused). Err x) p.2) (thread_finishes (g.P.Port.board c.args.port.now) (g.P.Port.board c.reach_kernel_of.new.port) (g.P.Port.board c.reach_thread_in.new.port) c.args.owners.now c.reach_kernel_of.new.owners c.reach_thread_in.new.owners c.args.space c.args.thread c.reach_kernel_of.result c.reach_thread_in.result (c.reach_kernel_of.ensures.had refl) (c.reach_thread_in.ensures.had refl) (walked_on (g.P.Port.board c.args.port.now) (g.P.Port.board c.reach_kernel_of.new.port) (g.P.Port.board c.reach_thread_in.new.port) c.args.owners.now c.reach_kernel_of.new.owners c.reach_thread_in.new.owners c.reach_kernel_of.ensures.walked c.reach_thread_in.ensures.walked) c.in_err-ident.field-0.0 c.in_err-ident.was)

pub returns-in_err-complete-clause-walked : goal.returns-in_err-complete-clause-walked
returns-in_err-complete-clause-walked g c =
    let p = err_from_is_err_and c.from_residual-in_err-complete.result c.from_residual-in_err-complete.ensures.1 in
    at_err _ c.in_err-complete.field-0.0 c.from_residual-in_err-complete.result (p.1 ∙ ap (λ (x : Refused). Err x) p.2)
    (walked_on (g.P.Port.board c.args.port.now) (g.P.Port.board c.reach_thread_in.new.port) (g.P.Port.board c.complete.new.self) c.args.owners.now c.reach_thread_in.new.owners c.reach_thread_in.new.owners (walked_on (g.P.Port.board c.args.port.now) (g.P.Port.board c.reach_kernel_of.new.port) (g.P.Port.board c.reach_thread_in.new.port) c.args.owners.now c.reach_kernel_of.new.owners c.reach_thread_in.new.owners c.reach_kernel_of.ensures.walked c.reach_thread_in.ensures.walked) (complete_refused (g.P.Port.board c.reach_thread_in.new.port) (g.P.Port.board c.complete.new.self) c.in_ok-kernel.kernel c.in_ok-ident.ident c.complete.result c.in_err-complete.field-0.0 c.reach_thread_in.new.owners c.in_err-complete.was c.complete.ensures.call))

pub returns-in_err-complete-clause-finished : goal.returns-in_err-complete-clause-finished
returns-in_err-complete-clause-finished g c =
    let p = err_from_is_err_and c.from_residual-in_err-complete.result c.from_residual-in_err-complete.ensures.1 in
    at_err _ c.in_err-complete.field-0.0 c.from_residual-in_err-complete.result (p.1 ∙ ap (λ (x : Refused). Err x) p.2)
    (call_finishes (g.P.Port.board c.args.port.now) (g.P.Port.board c.reach_kernel_of.new.port) (g.P.Port.board c.reach_thread_in.new.port) c.args.owners.now c.reach_kernel_of.new.owners c.reach_thread_in.new.owners c.args.space c.args.thread c.reach_kernel_of.result c.reach_thread_in.result (c.reach_kernel_of.ensures.had refl) (c.reach_thread_in.ensures.had refl)
    (g.P.Port.board c.complete.new.self) c.in_ok-kernel.kernel c.in_ok-ident.ident c.complete.result c.in_err-complete.field-0.0 c.in_ok-kernel.was c.in_ok-ident.was c.in_err-complete.was (walked_on (g.P.Port.board c.args.port.now) (g.P.Port.board c.reach_kernel_of.new.port) (g.P.Port.board c.reach_thread_in.new.port) c.args.owners.now c.reach_kernel_of.new.owners c.reach_thread_in.new.owners c.reach_kernel_of.ensures.walked c.reach_thread_in.ensures.walked) c.complete.ensures.call)

pub returns-then-has_ended-clause-helped : goal.returns-then-has_ended-clause-helped
returns-then-has_ended-clause-helped g c =
    complete_helps (g.P.Port.board c.args.port.now) (g.P.Port.board c.reach_thread_in.new.port) (g.P.Port.board c.complete.new.self) (g.P.Port.board c.has_ended.new.port) c.args.owners.now c.reach_thread_in.new.owners c.args.thread c.in_ok-kernel.kernel c.in_ok-ident.ident c.complete.result _ c.has_ended.result served.Ended (walked_on (g.P.Port.board c.args.port.now) (g.P.Port.board c.reach_kernel_of.new.port) (g.P.Port.board c.reach_thread_in.new.port) c.args.owners.now c.reach_kernel_of.new.owners c.reach_thread_in.new.owners c.reach_kernel_of.ensures.walked c.reach_thread_in.ensures.walked) c.in_ok-ident.ensures.noted c.in_ok-complete.was c.complete.ensures.call c.has_ended.ensures.told (λ _. refl) (λ going. absurd (let clash : true ≡ false = sym c.if-has_ended.true ∙ going in cc))

pub returns-else-has_ended-clause-helped : goal.returns-else-has_ended-clause-helped
returns-else-has_ended-clause-helped g c =
    complete_helps (g.P.Port.board c.args.port.now) (g.P.Port.board c.reach_thread_in.new.port) (g.P.Port.board c.complete.new.self) (g.P.Port.board c.has_ended.new.port) c.args.owners.now c.reach_thread_in.new.owners c.args.thread c.in_ok-kernel.kernel c.in_ok-ident.ident c.complete.result _ c.has_ended.result served.Resumed (walked_on (g.P.Port.board c.args.port.now) (g.P.Port.board c.reach_kernel_of.new.port) (g.P.Port.board c.reach_thread_in.new.port) c.args.owners.now c.reach_kernel_of.new.owners c.reach_thread_in.new.owners c.reach_kernel_of.ensures.walked c.reach_thread_in.ensures.walked) c.in_ok-ident.ensures.noted c.in_ok-complete.was c.complete.ensures.call c.has_ended.ensures.told (λ over. absurd (let clash : false ≡ true = sym c.if-has_ended.false ∙ over in cc)) (λ _. refl)
