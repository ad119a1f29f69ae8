use Rattle.std.proofs.Common.{ap, ◌∙◌, sym}
use Rattle.std.specs.Prelude.{Err}
use Rattle.std.proofs.lemmas.Result.{err_from_is_err_and}
use Rattle.page_laws.specs.board_ops.specs.declared.refusals.Refused.{Refused}
use Rattle.app_kernel.proofs.RowLaws.{fills_ended, fills_passed, vain_ended, vain_passed}
use Rattle.app_kernel.proofs.rows.load_message_row.Goals as goal

pub returns-in_err-answer-clause-fills : goal.returns-in_err-answer-clause-fills
returns-in_err-answer-clause-fills g c =
    let p = err_from_is_err_and c.from_residual.result c.from_residual.ensures.1 in
    fills_ended (g.P.Port.board c.args.port.now) (g.P.Port.board c.load_row.new.port) c.args.owners.now c.load_row.new.owners c.args.space c.args.vpn c.args.trust c.load_row.result c.from_residual.result c.load_row.ensures.fills (p.1 ∙ ap (λ (x : Refused). Err x) p.2 ∙ sym c.in_err-answer.was)

pub returns-in_err-answer-clause-vain : goal.returns-in_err-answer-clause-vain
returns-in_err-answer-clause-vain g c =
    let p = err_from_is_err_and c.from_residual.result c.from_residual.ensures.1 in
    vain_ended (g.P.Port.board c.args.port.now) (g.P.Port.board c.load_row.new.port) c.args.owners.now c.load_row.new.owners c.args.space c.args.vpn c.args.trust c.load_row.result c.from_residual.result c.load_row.ensures.vain (p.1 ∙ ap (λ (x : Refused). Err x) p.2 ∙ sym c.in_err-answer.was)

pub returns-in_err-answer-2-clause-fills : goal.returns-in_err-answer-2-clause-fills
returns-in_err-answer-2-clause-fills g c =
    let p = err_from_is_err_and c.from_residual-in_err-answer-2.result c.from_residual-in_err-answer-2.ensures.1 in
    fills_ended (g.P.Port.board c.args.port.now) (g.P.Port.board c.ask_with_signal_row.new.port) c.args.owners.now c.ask_with_signal_row.new.owners c.args.space c.args.vpn c.args.trust c.ask_with_signal_row.result c.from_residual-in_err-answer-2.result (fills_passed (g.P.Port.board c.args.port.now) (g.P.Port.board c.load_row.new.port) (g.P.Port.board c.ask_with_signal_row.new.port) c.args.owners.now c.load_row.new.owners c.ask_with_signal_row.new.owners c.args.space c.args.vpn c.args.trust c.in_ok-answer.answer c.load_row.result c.ask_with_signal_row.result c.in_ok-answer.was c.ask_with_signal_row.ensures.walked c.ask_with_signal_row.ensures.passed c.load_row.ensures.fills) (p.1 ∙ ap (λ (x : Refused). Err x) p.2 ∙ sym c.in_err-answer-2.was)

pub returns-clause-fills : goal.returns-clause-fills
returns-clause-fills g c =
    fills_passed (g.P.Port.board c.args.port.now) (g.P.Port.board c.ask_with_signal_row.new.port) (g.P.Port.board c.ask_with_signal_row-2.new.port) c.args.owners.now c.ask_with_signal_row.new.owners c.ask_with_signal_row-2.new.owners c.args.space c.args.vpn c.args.trust c.in_ok-answer-2.answer c.ask_with_signal_row.result c.ask_with_signal_row-2.result c.in_ok-answer-2.was c.ask_with_signal_row-2.ensures.walked c.ask_with_signal_row-2.ensures.passed (fills_passed (g.P.Port.board c.args.port.now) (g.P.Port.board c.load_row.new.port) (g.P.Port.board c.ask_with_signal_row.new.port) c.args.owners.now c.load_row.new.owners c.ask_with_signal_row.new.owners c.args.space c.args.vpn c.args.trust c.in_ok-answer.answer c.load_row.result c.ask_with_signal_row.result c.in_ok-answer.was c.ask_with_signal_row.ensures.walked c.ask_with_signal_row.ensures.passed c.load_row.ensures.fills)

pub returns-in_err-answer-2-clause-vain : goal.returns-in_err-answer-2-clause-vain
returns-in_err-answer-2-clause-vain g c =
    let p = err_from_is_err_and c.from_residual-in_err-answer-2.result c.from_residual-in_err-answer-2.ensures.1 in
    vain_ended (g.P.Port.board c.args.port.now) (g.P.Port.board c.ask_with_signal_row.new.port) c.args.owners.now c.ask_with_signal_row.new.owners c.args.space c.args.vpn c.args.trust c.ask_with_signal_row.result c.from_residual-in_err-answer-2.result (vain_passed (g.P.Port.board c.args.port.now) (g.P.Port.board c.load_row.new.port) (g.P.Port.board c.ask_with_signal_row.new.port) c.args.owners.now c.load_row.new.owners c.ask_with_signal_row.new.owners c.args.space c.args.vpn c.args.trust c.in_ok-answer.answer c.load_row.result c.ask_with_signal_row.result c.in_ok-answer.was c.ask_with_signal_row.ensures.walked c.ask_with_signal_row.ensures.passed c.load_row.ensures.vain) (p.1 ∙ ap (λ (x : Refused). Err x) p.2 ∙ sym c.in_err-answer-2.was)

pub returns-clause-vain : goal.returns-clause-vain
returns-clause-vain g c =
    vain_passed (g.P.Port.board c.args.port.now) (g.P.Port.board c.ask_with_signal_row.new.port) (g.P.Port.board c.ask_with_signal_row-2.new.port) c.args.owners.now c.ask_with_signal_row.new.owners c.ask_with_signal_row-2.new.owners c.args.space c.args.vpn c.args.trust c.in_ok-answer-2.answer c.ask_with_signal_row.result c.ask_with_signal_row-2.result c.in_ok-answer-2.was c.ask_with_signal_row-2.ensures.walked c.ask_with_signal_row-2.ensures.passed (vain_passed (g.P.Port.board c.args.port.now) (g.P.Port.board c.load_row.new.port) (g.P.Port.board c.ask_with_signal_row.new.port) c.args.owners.now c.load_row.new.owners c.ask_with_signal_row.new.owners c.args.space c.args.vpn c.args.trust c.in_ok-answer.answer c.load_row.result c.ask_with_signal_row.result c.in_ok-answer.was c.ask_with_signal_row.ensures.walked c.ask_with_signal_row.ensures.passed c.load_row.ensures.vain)
