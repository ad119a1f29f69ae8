use Rattle.std.proofs.Common.{ap, refl, ◌∙◌}
use Rattle.std.specs.Prelude.{Err, Result}
use Rattle.std.proofs.lemmas.Result.{err_from_is_err_and}
use Rattle.page_laws.specs.board_ops.specs.declared.refusals.Refused.{Refused}
use Rattle.app_kernel.proofs.FaultLaws.{confirmed_never, confirmed_now, unconfirmed_call, unconfirmed_kernel, unconfirmed_thread}
use Rattle.app_kernel.proofs.ServeLaws.{at_err, confirm_ends, fault_refused, goes_on_so}
use Rattle.app_kernel.proofs.WalkLaws.{walked_on}
use Rattle.app_kernel.proofs.serving.confirm.Goals as goal

pub returns-in_err-ident-clause-confirms : goal.returns-in_err-ident-clause-confirms
returns-in_err-ident-clause-confirms g c =
    let p = err_from_is_err_and c.from_residual.result c.from_residual.ensures.1 in
    unconfirmed_thread (g.P.Port.board c.args.port.now) (g.P.Port.board c.reach_thread_in.new.port) c.args.owners.now c.reach_thread_in.new.owners c.args.space c.args.thread c.args.trust c.reach_thread_in.result c.in_err-ident.field-0.0 c.from_residual.result c.reach_thread_in.ensures.gentle c.reach_thread_in.ensures.reached c.in_err-ident.was (p.1 ∙ ap (λ (x : Refused). Err x) p.2)

pub returns-in_err-kernel-clause-walked : goal.returns-in_err-kernel-clause-walked
returns-in_err-kernel-clause-walked g c =
    let p = err_from_is_err_and c.from_residual-in_err-kernel.result c.from_residual-in_err-kernel.ensures.1 in
    at_err _ c.in_err-kernel.field-0.0 c.from_residual-in_err-kernel.result (p.1 ∙ ap (λ (x : Refused). Err x) p.2) (walked_on (g.P.Port.board c.args.port.now) (g.P.Port.board c.reach_thread_in.new.port) (g.P.Port.board c.reach_kernel_of.new.port) c.args.owners.now c.reach_thread_in.new.owners c.reach_kernel_of.new.owners c.reach_thread_in.ensures.walked c.reach_kernel_of.ensures.walked)

pub returns-in_err-kernel-clause-confirms : goal.returns-in_err-kernel-clause-confirms
returns-in_err-kernel-clause-confirms g c =
    let p = err_from_is_err_and c.from_residual-in_err-kernel.result c.from_residual-in_err-kernel.ensures.1 in
    unconfirmed_kernel (g.P.Port.board c.args.port.now) (g.P.Port.board c.reach_thread_in.new.port) (g.P.Port.board c.reach_kernel_of.new.port) c.args.owners.now c.reach_thread_in.new.owners c.reach_kernel_of.new.owners c.args.space c.args.thread c.args.trust c.in_ok-ident.ident c.reach_thread_in.result c.reach_kernel_of.result c.reach_thread_in.ensures.gentle c.reach_thread_in.ensures.reached c.in_ok-ident.was c.reach_kernel_of.ensures.gentle (c.reach_kernel_of.ensures.had refl) c.in_err-kernel.field-0.0 c.from_residual-in_err-kernel.result c.in_err-kernel.was (p.1 ∙ ap (λ (x : Refused). Err x) p.2)

pub returns-in-Ok-clause-helped : goal.returns-in-Ok-clause-helped
returns-in-Ok-clause-helped g c = λ va access.
    confirm_ends (g.P.Port.board c.args.port.now) (g.P.Port.board c.reach_kernel_of.new.port) (g.P.Port.board c.confirm_fault.new.self) c.args.owners.now c.reach_kernel_of.new.owners c.args.thread va access c.in_ok-kernel.kernel c.in_ok-ident.ident c.confirm_fault.result _ (walked_on (g.P.Port.board c.args.port.now) (g.P.Port.board c.reach_thread_in.new.port) (g.P.Port.board c.reach_kernel_of.new.port) c.args.owners.now c.reach_thread_in.new.owners c.reach_kernel_of.new.owners c.reach_thread_in.ensures.walked c.reach_kernel_of.ensures.walked) (c.reach_kernel_of.ensures.idents c.args.thread ∙ c.in_ok-ident.ensures.noted) c.in-Ok.is c.confirm_fault.ensures.call

pub returns-in-Ok-clause-confirms : goal.returns-in-Ok-clause-confirms
returns-in-Ok-clause-confirms g c =
    confirmed_now (g.P.Port.board c.args.port.now) (g.P.Port.board c.reach_thread_in.new.port) (g.P.Port.board c.reach_kernel_of.new.port) c.args.owners.now c.reach_thread_in.new.owners c.reach_kernel_of.new.owners c.args.space c.args.thread c.args.trust c.in_ok-ident.ident c.reach_thread_in.result c.reach_kernel_of.result c.reach_thread_in.ensures.gentle c.reach_thread_in.ensures.reached c.in_ok-ident.was c.reach_kernel_of.ensures.gentle (c.reach_kernel_of.ensures.had refl) (g.P.Port.board c.confirm_fault.new.self) c.in_ok-kernel.kernel c.confirm_fault.result c.in_ok-kernel.was (c.reach_kernel_of.ensures.idents c.args.thread ∙ c.in_ok-ident.ensures.noted) c.confirm_fault.ensures.call _ c.in-Ok.is

pub returns-in-Err-Mapped-clause-helped : goal.returns-in-Err-Mapped-clause-helped
returns-in-Err-Mapped-clause-helped g c = λ va access.
    goes_on_so (g.P.Port.board c.args.port.now) (g.P.Port.board c.confirm_fault.new.self) c.args.owners.now c.reach_kernel_of.new.owners c.args.thread va access (walked_on (g.P.Port.board c.args.port.now) (g.P.Port.board c.reach_kernel_of.new.port) (g.P.Port.board c.confirm_fault.new.self) c.args.owners.now c.reach_kernel_of.new.owners c.reach_kernel_of.new.owners (walked_on (g.P.Port.board c.args.port.now) (g.P.Port.board c.reach_thread_in.new.port) (g.P.Port.board c.reach_kernel_of.new.port) c.args.owners.now c.reach_thread_in.new.owners c.reach_kernel_of.new.owners c.reach_thread_in.ensures.walked c.reach_kernel_of.ensures.walked) (fault_refused (g.P.Port.board c.reach_kernel_of.new.port) (g.P.Port.board c.confirm_fault.new.self) c.in_ok-kernel.kernel c.in_ok-ident.ident c.confirm_fault.result _ c.reach_kernel_of.new.owners c.in-Err-Mapped.is c.confirm_fault.ensures.call))

pub returns-in-Err-Mapped-clause-confirms : goal.returns-in-Err-Mapped-clause-confirms
returns-in-Err-Mapped-clause-confirms g c =
    confirmed_never (g.P.Port.board c.args.port.now) (g.P.Port.board c.reach_thread_in.new.port) (g.P.Port.board c.reach_kernel_of.new.port) c.args.owners.now c.reach_thread_in.new.owners c.reach_kernel_of.new.owners c.args.space c.args.thread c.args.trust c.in_ok-ident.ident c.reach_thread_in.result c.reach_kernel_of.result c.reach_thread_in.ensures.gentle c.reach_thread_in.ensures.reached c.in_ok-ident.was c.reach_kernel_of.ensures.gentle (c.reach_kernel_of.ensures.had refl) (g.P.Port.board c.confirm_fault.new.self) c.in_ok-kernel.kernel c.confirm_fault.result c.in_ok-kernel.was (c.reach_kernel_of.ensures.idents c.args.thread ∙ c.in_ok-ident.ensures.noted) c.confirm_fault.ensures.call _ _ (c.in-Err-Mapped.is ∙ ap (λ (x : Refused). let r : Result (Unit {0}) Refused = Err x in r) c.in-Err-Mapped.field-0-is)

pub returns-in-Err-clause-walked : goal.returns-in-Err-clause-walked
returns-in-Err-clause-walked g c =
    walked_on (g.P.Port.board c.args.port.now) (g.P.Port.board c.reach_kernel_of.new.port) (g.P.Port.board c.confirm_fault.new.self) c.args.owners.now c.reach_kernel_of.new.owners c.reach_kernel_of.new.owners (walked_on (g.P.Port.board c.args.port.now) (g.P.Port.board c.reach_thread_in.new.port) (g.P.Port.board c.reach_kernel_of.new.port) c.args.owners.now c.reach_thread_in.new.owners c.reach_kernel_of.new.owners c.reach_thread_in.ensures.walked c.reach_kernel_of.ensures.walked) (fault_refused (g.P.Port.board c.reach_kernel_of.new.port) (g.P.Port.board c.confirm_fault.new.self) c.in_ok-kernel.kernel c.in_ok-ident.ident c.confirm_fault.result c.in-Err.refused c.reach_kernel_of.new.owners c.in-Err.is c.confirm_fault.ensures.call)

pub returns-in-Err-clause-confirms : goal.returns-in-Err-clause-confirms
returns-in-Err-clause-confirms g c =
    unconfirmed_call (g.P.Port.board c.args.port.now) (g.P.Port.board c.reach_thread_in.new.port) (g.P.Port.board c.reach_kernel_of.new.port) c.args.owners.now c.reach_thread_in.new.owners c.reach_kernel_of.new.owners c.args.space c.args.thread c.args.trust c.in_ok-ident.ident c.reach_thread_in.result c.reach_kernel_of.result c.reach_thread_in.ensures.gentle c.reach_thread_in.ensures.reached c.in_ok-ident.was c.reach_kernel_of.ensures.gentle (c.reach_kernel_of.ensures.had refl) (g.P.Port.board c.confirm_fault.new.self) c.in_ok-kernel.kernel c.confirm_fault.result c.in_ok-kernel.was (c.reach_kernel_of.ensures.idents c.args.thread ∙ c.in_ok-ident.ensures.noted) c.confirm_fault.ensures.call c.in-Err.refused c.in-Err.is
