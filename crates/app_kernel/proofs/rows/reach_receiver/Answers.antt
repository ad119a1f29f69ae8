use Rattle.std.proofs.Common.{ap, sym, ◌∙◌}
use Rattle.std.specs.Prelude.{Err}
use Rattle.std.proofs.lemmas.Result.{err_from_is_err_and}
use Rattle.page_laws.specs.board_ops.specs.declared.refusals.Refused.{Refused}
use Rattle.app_kernel.proofs.AskLaws.{receiver_away, receiver_got, receiver_none}
use Rattle.app_kernel.proofs.GentleCalls.{gentle_here}
use Rattle.app_kernel.proofs.rows.reach_receiver.Goals as goal

pub returns-in_err-ident-in-Some-clause-given : goal.returns-in_err-ident-in-Some-clause-given
returns-in_err-ident-in-Some-clause-given g c =
    let p = err_from_is_err_and c.from_residual.result c.from_residual.ensures.1 in
    receiver_away (g.P.Port.board c.args.port.now) (g.P.Port.board c.reach_thread_in.new.port) c.args.owners.now c.reach_thread_in.new.owners c.args.space c.args.vpn c.in-Some.receiver c.args.trust c.reach_thread_in.result (sym c.receiver_of.ensures ∙ c.in-Some.is) c.reach_thread_in.ensures.reached c.in_err-ident-in-Some.field-0.0 c.from_residual.result c.in_err-ident-in-Some.was (p.1 ∙ ap (λ (x : Refused). Err x) p.2)

pub returns-in_ok-ident-in-Some-clause-given : goal.returns-in_ok-ident-in-Some-clause-given
returns-in_ok-ident-in-Some-clause-given g c =
    receiver_got (g.P.Port.board c.args.port.now) (g.P.Port.board c.reach_thread_in.new.port) c.args.owners.now c.reach_thread_in.new.owners c.args.space c.args.vpn c.in-Some.receiver c.args.trust c.reach_thread_in.result (sym c.receiver_of.ensures ∙ c.in-Some.is) c.reach_thread_in.ensures.reached c.in_ok-ident-in-Some.ident c.in_ok-ident-in-Some.was c.in_ok-ident-in-Some.ensures.noted

pub returns-in-None-clause-gentle : goal.returns-in-None-clause-gentle
returns-in-None-clause-gentle g c = gentle_here c.args.space (g.P.Port.board c.args.port.now) c.args.owners.now

pub returns-in-None-clause-given : goal.returns-in-None-clause-given
returns-in-None-clause-given g c = receiver_none (g.P.Port.board c.args.port.now) c.args.owners.now c.args.space c.args.trust _ (sym c.receiver_of.ensures ∙ c.in-None.is)
