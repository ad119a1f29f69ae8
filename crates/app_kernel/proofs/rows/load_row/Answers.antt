use Rattle.std.proofs.Common.{ap, sym, ◌∙◌, subst}
use Rattle.std.specs.Prelude.{Err, Ok, Result}
use Rattle.std.proofs.lemmas.Result.{err_from_is_err_and}
use Rattle.cache_ident.specs.declared.idents.Ident.{Ident}
use Rattle.page_laws.specs.board_ops.specs.declared.refusals.Refused.{Refused}
use Rattle.owner_ports.specs.Boards.{OnTold}
use Rattle.page_laws.specs.reach_laws.specs.Reaching.{IsOwned}
use Rattle.app_kernel.specs.Walks.{AreWalked, IsLearntSo, IsReceiverTold}
use Rattle.app_kernel.proofs.RowLaws.{fills_again, fills_once, fills_unasked, fills_unlearnt, no_other, none_told, vain_again, vain_once, vain_unasked, vain_unlearnt}
use Rattle.app_kernel.proofs.WalkLaws.{err_at, ok_at, told_learnt, walked_on}
use Rattle.app_kernel.proofs.rows.load_row.Goals as goal

pub returns-in_ok-learn_told-in-WrongParent-clause-walked : goal.returns-in_ok-learn_told-in-WrongParent-clause-walked
returns-in_ok-learn_told-in-WrongParent-clause-walked g c =
    walked_on (g.P.Port.board c.args.port.now) (g.P.Port.board c.ask_row.new.port) (g.P.Port.board c.ask_row-in-WrongParent.new.port) c.args.owners.now c.learn_told.new.owners c.ask_row-in-WrongParent.new.owners
    (told_learnt (g.P.Port.board c.args.port.now) (g.P.Port.board c.ask_row.new.port) c.args.owners.now c.ask_row.new.owners c.learn_told.new.owners c.args.space c.args.vpn (Err c.in-Err.refused) c.ask_row.ensures.walked (subst (λ (x : Result Ident Refused). OnTold (g.P.Port.board c.args.port.now) (g.P.Port.board c.ask_row.new.port) (λ old new. IsOwned old c.args.owners.now → IsReceiverTold new c.args.space x)) c.in-Err.is c.in_ok-answer.ensures.told) (ok_at c.learn_told.result _ c.in_ok-learn_told-in-WrongParent.was c.learn_told.ensures.learnt))
    c.ask_row-in-WrongParent.ensures.walked

pub returns-in_err-answer-clause-fills : goal.returns-in_err-answer-clause-fills
returns-in_err-answer-clause-fills g c =
    let p = err_from_is_err_and c.from_residual.result c.from_residual.ensures.1 in
    fills_unasked (g.P.Port.board c.args.port.now) (g.P.Port.board c.ask_row.new.port) c.args.owners.now c.ask_row.new.owners c.args.space c.args.vpn c.args.trust c.in_err-answer.field-0.0 c.ask_row.result c.from_residual.result c.ask_row.ensures.fills c.in_err-answer.was (p.1 ∙ ap (λ (x : Refused). Err x) p.2)

pub returns-in_err-answer-clause-vain : goal.returns-in_err-answer-clause-vain
returns-in_err-answer-clause-vain g c =
    let p = err_from_is_err_and c.from_residual.result c.from_residual.ensures.1 in
    vain_unasked (g.P.Port.board c.args.port.now) (g.P.Port.board c.ask_row.new.port) c.args.owners.now c.ask_row.new.owners c.args.space c.args.vpn c.args.trust c.in_err-answer.field-0.0 c.ask_row.result c.from_residual.result c.ask_row.ensures.vain c.in_err-answer.was (p.1 ∙ ap (λ (x : Refused). Err x) p.2)

pub returns-in_err-learn_told-in-WrongParent-clause-fills : goal.returns-in_err-learn_told-in-WrongParent-clause-fills
returns-in_err-learn_told-in-WrongParent-clause-fills g c =
    let p = err_from_is_err_and c.from_residual-in_err-learn_told-in-WrongParent.result c.from_residual-in_err-learn_told-in-WrongParent.ensures.1 in
    fills_unlearnt (g.P.Port.board c.args.port.now) (g.P.Port.board c.ask_row.new.port) c.args.owners.now c.ask_row.new.owners c.args.space c.args.vpn c.args.trust c.learn_told.new.owners c.from_residual-in_err-learn_told-in-WrongParent.result (subst (AreWalked (g.P.Port.board c.args.port.now) (g.P.Port.board c.ask_row.new.port) c.args.owners.now) (sym (err_at c.learn_told.result _ c.in_err-learn_told-in-WrongParent.was c.learn_told.ensures.same)) c.ask_row.ensures.walked) (p.1 ∙ ap (λ (x : Refused). Err x) p.2)

pub returns-in_err-learn_told-in-WrongParent-clause-vain : goal.returns-in_err-learn_told-in-WrongParent-clause-vain
returns-in_err-learn_told-in-WrongParent-clause-vain g c =
    let p = err_from_is_err_and c.from_residual-in_err-learn_told-in-WrongParent.result c.from_residual-in_err-learn_told-in-WrongParent.ensures.1 in
    vain_unlearnt (g.P.Port.board c.args.port.now) (g.P.Port.board c.ask_row.new.port) c.args.owners.now c.ask_row.new.owners c.args.space c.args.vpn c.args.trust c.learn_told.new.owners c.from_residual-in_err-learn_told-in-WrongParent.result (subst (AreWalked (g.P.Port.board c.args.port.now) (g.P.Port.board c.ask_row.new.port) c.args.owners.now) (sym (err_at c.learn_told.result _ c.in_err-learn_told-in-WrongParent.was c.learn_told.ensures.same)) c.ask_row.ensures.walked) (p.1 ∙ ap (λ (x : Refused). Err x) p.2) c.ask_row.result c.ask_row.ensures.vain

pub returns-in_ok-learn_told-in-WrongParent-clause-fills : goal.returns-in_ok-learn_told-in-WrongParent-clause-fills
returns-in_ok-learn_told-in-WrongParent-clause-fills g c =
    fills_again (g.P.Port.board c.args.port.now) (g.P.Port.board c.ask_row.new.port) (g.P.Port.board c.ask_row-in-WrongParent.new.port) c.args.owners.now c.ask_row.new.owners c.learn_told.new.owners c.ask_row-in-WrongParent.new.owners c.args.space c.args.vpn c.args.trust _ _ c.ask_row.result c.ask_row-in-WrongParent.result (c.in_ok-answer.was ∙ ap (λ (x : Result Ident Refused). let r : Result (Result Ident Refused) Refused = Ok x in r) (c.in-Err.is ∙ ap (λ (x : Refused). let r : Result Ident Refused = Err x in r) c.in-WrongParent.is)) (told_learnt (g.P.Port.board c.args.port.now) (g.P.Port.board c.ask_row.new.port) c.args.owners.now c.ask_row.new.owners c.learn_told.new.owners c.args.space c.args.vpn (Err c.in-Err.refused) c.ask_row.ensures.walked (subst (λ (x : Result Ident Refused). OnTold (g.P.Port.board c.args.port.now) (g.P.Port.board c.ask_row.new.port) (λ old new. IsOwned old c.args.owners.now → IsReceiverTold new c.args.space x)) c.in-Err.is c.in_ok-answer.ensures.told) (ok_at c.learn_told.result _ c.in_ok-learn_told-in-WrongParent.was c.learn_told.ensures.learnt)) (subst (λ (x : Refused). IsLearntSo (c.args.space, c.args.vpn) (Err x) c.ask_row.new.owners c.learn_told.new.owners) c.in-WrongParent.is (ok_at c.learn_told.result _ c.in_ok-learn_told-in-WrongParent.was c.learn_told.ensures.learnt)) c.ask_row.ensures.fills c.ask_row-in-WrongParent.ensures.fills

pub returns-in_ok-learn_told-in-WrongParent-clause-vain : goal.returns-in_ok-learn_told-in-WrongParent-clause-vain
returns-in_ok-learn_told-in-WrongParent-clause-vain g c =
    vain_again (g.P.Port.board c.args.port.now) (g.P.Port.board c.ask_row.new.port) (g.P.Port.board c.ask_row-in-WrongParent.new.port) c.args.owners.now c.ask_row.new.owners c.learn_told.new.owners c.ask_row-in-WrongParent.new.owners c.args.space c.args.vpn c.args.trust _ _ c.ask_row.result c.ask_row-in-WrongParent.result (c.in_ok-answer.was ∙ ap (λ (x : Result Ident Refused). let r : Result (Result Ident Refused) Refused = Ok x in r) (c.in-Err.is ∙ ap (λ (x : Refused). let r : Result Ident Refused = Err x in r) c.in-WrongParent.is)) (told_learnt (g.P.Port.board c.args.port.now) (g.P.Port.board c.ask_row.new.port) c.args.owners.now c.ask_row.new.owners c.learn_told.new.owners c.args.space c.args.vpn (Err c.in-Err.refused) c.ask_row.ensures.walked (subst (λ (x : Result Ident Refused). OnTold (g.P.Port.board c.args.port.now) (g.P.Port.board c.ask_row.new.port) (λ old new. IsOwned old c.args.owners.now → IsReceiverTold new c.args.space x)) c.in-Err.is c.in_ok-answer.ensures.told) (ok_at c.learn_told.result _ c.in_ok-learn_told-in-WrongParent.was c.learn_told.ensures.learnt)) (subst (λ (x : Refused). IsLearntSo (c.args.space, c.args.vpn) (Err x) c.ask_row.new.owners c.learn_told.new.owners) c.in-WrongParent.is (ok_at c.learn_told.result _ c.in_ok-learn_told-in-WrongParent.was c.learn_told.ensures.learnt)) c.ask_row.ensures.vain c.ask_row-in-WrongParent.ensures.vain

pub returns-in_default-clause-fills : goal.returns-in_default-clause-fills
returns-in_default-clause-fills g c =
    fills_once (g.P.Port.board c.args.port.now) (g.P.Port.board c.ask_row.new.port) c.args.owners.now c.ask_row.new.owners c.args.space c.args.vpn c.args.trust (Err c.in-Err.refused) c.ask_row.result c.ask_row.ensures.fills (c.in_ok-answer.was ∙ ap (λ (x : Result Ident Refused). let r : Result (Result Ident Refused) Refused = Ok x in r) c.in-Err.is) (no_other c.in-Err.refused c.in_default.not-WrongParent)

pub returns-in_default-clause-vain : goal.returns-in_default-clause-vain
returns-in_default-clause-vain g c =
    vain_once (g.P.Port.board c.args.port.now) (g.P.Port.board c.ask_row.new.port) c.args.owners.now c.ask_row.new.owners c.args.space c.args.vpn c.args.trust (Err c.in-Err.refused) c.ask_row.result c.ask_row.ensures.vain (c.in_ok-answer.was ∙ ap (λ (x : Result Ident Refused). let r : Result (Result Ident Refused) Refused = Ok x in r) c.in-Err.is) (no_other c.in-Err.refused c.in_default.not-WrongParent)

pub returns-in-Ok-clause-fills : goal.returns-in-Ok-clause-fills
returns-in-Ok-clause-fills g c =
    fills_once (g.P.Port.board c.args.port.now) (g.P.Port.board c.ask_row.new.port) c.args.owners.now c.ask_row.new.owners c.args.space c.args.vpn c.args.trust c.in_ok-answer.answer c.ask_row.result c.ask_row.ensures.fills c.in_ok-answer.was (none_told c.in_ok-answer.answer _ c.in-Ok.is)

pub returns-in-Ok-clause-vain : goal.returns-in-Ok-clause-vain
returns-in-Ok-clause-vain g c =
    vain_once (g.P.Port.board c.args.port.now) (g.P.Port.board c.ask_row.new.port) c.args.owners.now c.ask_row.new.owners c.args.space c.args.vpn c.args.trust c.in_ok-answer.answer c.ask_row.result c.ask_row.ensures.vain c.in_ok-answer.was (none_told c.in_ok-answer.answer _ c.in-Ok.is)
