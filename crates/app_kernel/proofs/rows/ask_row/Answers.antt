use Rattle.std.proofs.Common.{ap, refl, sym, ◌∙◌, subst}
use Rattle.std.specs.Prelude.{Err}
use Rattle.std.proofs.lemmas.Result.{err_from_is_err_and}
use Rattle.page_laws.specs.board_ops.specs.declared.refusals.Refused.{Refused}
use Rattle.owners.specs.Known.{receiver_of}
use Rattle.app_kernel.specs.Walks.{AreWalked}
use Rattle.app_kernel.proofs.AskLaws.{at_row, fills_asked, fills_refused, fills_unnoted, kernel_wants, receiver_wants, space_wants, vain_asked, vain_refused, vain_unnoted}
use Rattle.app_kernel.proofs.GentleLaws.{gentle_on}
use Rattle.app_kernel.proofs.WalkLaws.{err_at, ok_at, receiver_told, receiver_told_since, row_asked, row_noted_so, walked_on}
use Rattle.app_kernel.proofs.rows.ask_row.Goals as goal

pub returns-in_err-note_row-clause-walked : goal.returns-in_err-note_row-clause-walked
returns-in_err-note_row-clause-walked g c =
    subst (AreWalked (g.P.Port.board c.args.port.now) (g.P.Port.board c.load_mapping-answer.new.self) c.args.owners.now) (sym (err_at c.note_row.result _ c.in_err-note_row.was c.note_row.ensures.same))
    (walked_on (g.P.Port.board c.args.port.now) (g.P.Port.board c.reach_space.new.port) (g.P.Port.board c.load_mapping-answer.new.self) c.args.owners.now c.reach_space.new.owners c.reach_space.new.owners (walked_on (g.P.Port.board c.args.port.now) (g.P.Port.board c.reach_kernel_of.new.port) (g.P.Port.board c.reach_space.new.port) c.args.owners.now c.reach_kernel_of.new.owners c.reach_space.new.owners (walked_on (g.P.Port.board c.args.port.now) (g.P.Port.board c.reach_receiver.new.port) (g.P.Port.board c.reach_kernel_of.new.port) c.args.owners.now c.reach_receiver.new.owners c.reach_kernel_of.new.owners c.reach_receiver.ensures.walked c.reach_kernel_of.ensures.walked) c.reach_space.ensures.walked) (row_asked c.reach_space.new.owners c.in_ok-kernel.kernel c.in_ok-parent.parent c.args.space c.args.vpn c.in_ok-receiver.receiver c.in_ok-parent.ensures.noted (g.P.Port.board c.reach_space.new.port) (g.P.Port.board c.load_mapping-answer.new.self) c.load_mapping-answer.result c.load_mapping-answer.ensures.call))

pub returns-clause-walked : goal.returns-clause-walked
returns-clause-walked g c =
    walked_on (g.P.Port.board c.args.port.now) (g.P.Port.board c.reach_space.new.port) (g.P.Port.board c.load_mapping-answer.new.self) c.args.owners.now c.reach_space.new.owners c.note_row.new.owners (walked_on (g.P.Port.board c.args.port.now) (g.P.Port.board c.reach_kernel_of.new.port) (g.P.Port.board c.reach_space.new.port) c.args.owners.now c.reach_kernel_of.new.owners c.reach_space.new.owners (walked_on (g.P.Port.board c.args.port.now) (g.P.Port.board c.reach_receiver.new.port) (g.P.Port.board c.reach_kernel_of.new.port) c.args.owners.now c.reach_receiver.new.owners c.reach_kernel_of.new.owners c.reach_receiver.ensures.walked c.reach_kernel_of.ensures.walked) c.reach_space.ensures.walked) (row_noted_so c.reach_space.new.owners c.in_ok-kernel.kernel c.in_ok-parent.parent c.args.space c.args.vpn c.in_ok-receiver.receiver c.in_ok-parent.ensures.noted (g.P.Port.board c.reach_space.new.port) (g.P.Port.board c.load_mapping-answer.new.self) c.load_mapping-answer.result c.load_mapping-answer.ensures.call c.note_row.new.owners (ok_at c.note_row.result _ c.in_ok-note_row.was c.note_row.ensures.noted))

pub returns-clause-told : goal.returns-clause-told
returns-clause-told g c =
    receiver_told_since (g.P.Port.board c.args.port.now) (g.P.Port.board c.reach_space.new.port) (g.P.Port.board c.load_mapping-answer.new.self) c.args.owners.now c.reach_space.new.owners c.args.space c.load_mapping-answer.result (walked_on (g.P.Port.board c.args.port.now) (g.P.Port.board c.reach_kernel_of.new.port) (g.P.Port.board c.reach_space.new.port) c.args.owners.now c.reach_kernel_of.new.owners c.reach_space.new.owners (walked_on (g.P.Port.board c.args.port.now) (g.P.Port.board c.reach_receiver.new.port) (g.P.Port.board c.reach_kernel_of.new.port) c.args.owners.now c.reach_receiver.new.owners c.reach_kernel_of.new.owners c.reach_receiver.ensures.walked c.reach_kernel_of.ensures.walked) c.reach_space.ensures.walked) (receiver_told c.reach_space.new.owners c.in_ok-kernel.kernel c.in_ok-parent.parent c.args.space c.args.vpn c.in_ok-receiver.receiver c.in_ok-parent.ensures.noted (g.P.Port.board c.reach_space.new.port) (g.P.Port.board c.load_mapping-answer.new.self) c.load_mapping-answer.result c.load_mapping-answer.ensures.call)

pub returns-in_err-receiver-clause-fills : goal.returns-in_err-receiver-clause-fills
returns-in_err-receiver-clause-fills g c =
    let p = err_from_is_err_and c.from_residual.result c.from_residual.ensures.1 in
    fills_refused c.args.space c.args.vpn c.args.trust (g.P.Port.board c.args.port.now) (g.P.Port.board c.reach_receiver.new.port) c.args.owners.now c.reach_receiver.new.owners c.in_err-receiver.field-0.0 c.from_residual.result (p.1 ∙ ap (λ (x : Refused). Err x) p.2) c.reach_receiver.ensures.gentle
    (receiver_wants (g.P.Port.board c.args.port.now) (g.P.Port.board c.reach_receiver.new.port) c.args.owners.now c.reach_receiver.new.owners c.args.space c.args.trust _ c.in_err-receiver.field-0.0 c.reach_receiver.result c.in_err-receiver.was c.reach_receiver.ensures.given)

pub returns-in_err-receiver-clause-vain : goal.returns-in_err-receiver-clause-vain
returns-in_err-receiver-clause-vain g c =
    let p = err_from_is_err_and c.from_residual.result c.from_residual.ensures.1 in
    vain_refused c.args.space c.args.vpn c.args.trust (g.P.Port.board c.args.port.now) (g.P.Port.board c.reach_receiver.new.port) c.args.owners.now c.reach_receiver.new.owners c.in_err-receiver.field-0.0 c.from_residual.result (p.1 ∙ ap (λ (x : Refused). Err x) p.2) c.reach_receiver.ensures.gentle
    (receiver_wants (g.P.Port.board c.args.port.now) (g.P.Port.board c.reach_receiver.new.port) c.args.owners.now c.reach_receiver.new.owners c.args.space c.args.trust _ c.in_err-receiver.field-0.0 c.reach_receiver.result c.in_err-receiver.was c.reach_receiver.ensures.given)

pub returns-in_err-kernel-clause-fills : goal.returns-in_err-kernel-clause-fills
returns-in_err-kernel-clause-fills g c =
    let p = err_from_is_err_and c.from_residual-in_err-kernel.result c.from_residual-in_err-kernel.ensures.1 in
    fills_refused c.args.space c.args.vpn c.args.trust (g.P.Port.board c.args.port.now) (g.P.Port.board c.reach_kernel_of.new.port) c.args.owners.now c.reach_kernel_of.new.owners c.in_err-kernel.field-0.0 c.from_residual-in_err-kernel.result (p.1 ∙ ap (λ (x : Refused). Err x) p.2) (gentle_on c.args.space (g.P.Port.board c.args.port.now) (g.P.Port.board c.reach_receiver.new.port) (g.P.Port.board c.reach_kernel_of.new.port) c.args.owners.now c.reach_receiver.new.owners c.reach_kernel_of.new.owners c.reach_receiver.ensures.gentle c.reach_kernel_of.ensures.gentle)
    (kernel_wants (g.P.Port.board c.args.port.now) (g.P.Port.board c.reach_receiver.new.port) c.args.owners.now c.reach_receiver.new.owners c.args.space c.args.trust (receiver_of c.args.owners.now (c.args.space, c.args.vpn)) c.in_ok-receiver.receiver c.reach_receiver.result c.in_ok-receiver.was c.reach_receiver.ensures.gentle c.reach_receiver.ensures.given (g.P.Port.board c.reach_kernel_of.new.port) c.reach_kernel_of.new.owners c.reach_kernel_of.result (c.reach_kernel_of.ensures.had refl) c.in_err-kernel.field-0.0 c.in_err-kernel.was c.reach_kernel_of.ensures.gentle)

pub returns-in_err-kernel-clause-vain : goal.returns-in_err-kernel-clause-vain
returns-in_err-kernel-clause-vain g c =
    let p = err_from_is_err_and c.from_residual-in_err-kernel.result c.from_residual-in_err-kernel.ensures.1 in
    vain_refused c.args.space c.args.vpn c.args.trust (g.P.Port.board c.args.port.now) (g.P.Port.board c.reach_kernel_of.new.port) c.args.owners.now c.reach_kernel_of.new.owners c.in_err-kernel.field-0.0 c.from_residual-in_err-kernel.result (p.1 ∙ ap (λ (x : Refused). Err x) p.2) (gentle_on c.args.space (g.P.Port.board c.args.port.now) (g.P.Port.board c.reach_receiver.new.port) (g.P.Port.board c.reach_kernel_of.new.port) c.args.owners.now c.reach_receiver.new.owners c.reach_kernel_of.new.owners c.reach_receiver.ensures.gentle c.reach_kernel_of.ensures.gentle)
    (kernel_wants (g.P.Port.board c.args.port.now) (g.P.Port.board c.reach_receiver.new.port) c.args.owners.now c.reach_receiver.new.owners c.args.space c.args.trust (receiver_of c.args.owners.now (c.args.space, c.args.vpn)) c.in_ok-receiver.receiver c.reach_receiver.result c.in_ok-receiver.was c.reach_receiver.ensures.gentle c.reach_receiver.ensures.given (g.P.Port.board c.reach_kernel_of.new.port) c.reach_kernel_of.new.owners c.reach_kernel_of.result (c.reach_kernel_of.ensures.had refl) c.in_err-kernel.field-0.0 c.in_err-kernel.was c.reach_kernel_of.ensures.gentle)

pub returns-in_err-parent-clause-fills : goal.returns-in_err-parent-clause-fills
returns-in_err-parent-clause-fills g c =
    let p = err_from_is_err_and c.from_residual-in_err-parent.result c.from_residual-in_err-parent.ensures.1 in
    fills_refused c.args.space c.args.vpn c.args.trust (g.P.Port.board c.args.port.now) (g.P.Port.board c.reach_space.new.port) c.args.owners.now c.reach_space.new.owners c.in_err-parent.field-0.0 c.from_residual-in_err-parent.result (p.1 ∙ ap (λ (x : Refused). Err x) p.2) (gentle_on c.args.space (g.P.Port.board c.args.port.now) (g.P.Port.board c.reach_kernel_of.new.port) (g.P.Port.board c.reach_space.new.port) c.args.owners.now c.reach_kernel_of.new.owners c.reach_space.new.owners (gentle_on c.args.space (g.P.Port.board c.args.port.now) (g.P.Port.board c.reach_receiver.new.port) (g.P.Port.board c.reach_kernel_of.new.port) c.args.owners.now c.reach_receiver.new.owners c.reach_kernel_of.new.owners c.reach_receiver.ensures.gentle c.reach_kernel_of.ensures.gentle) c.reach_space.ensures.gentle)
    (space_wants (g.P.Port.board c.args.port.now) (g.P.Port.board c.reach_receiver.new.port) c.args.owners.now c.reach_receiver.new.owners c.args.space c.args.trust (receiver_of c.args.owners.now (c.args.space, c.args.vpn)) c.in_ok-receiver.receiver c.reach_receiver.result c.in_ok-receiver.was c.reach_receiver.ensures.gentle c.reach_receiver.ensures.given (g.P.Port.board c.reach_kernel_of.new.port) c.reach_kernel_of.new.owners c.reach_kernel_of.result (c.reach_kernel_of.ensures.had refl) (g.P.Port.board c.reach_space.new.port) c.reach_space.new.owners c.reach_space.result (c.reach_space.ensures.had refl) c.reach_kernel_of.ensures.gentle c.reach_space.ensures.gentle c.in_err-parent.field-0.0 c.in_err-parent.was)

pub returns-in_err-parent-clause-vain : goal.returns-in_err-parent-clause-vain
returns-in_err-parent-clause-vain g c =
    let p = err_from_is_err_and c.from_residual-in_err-parent.result c.from_residual-in_err-parent.ensures.1 in
    vain_refused c.args.space c.args.vpn c.args.trust (g.P.Port.board c.args.port.now) (g.P.Port.board c.reach_space.new.port) c.args.owners.now c.reach_space.new.owners c.in_err-parent.field-0.0 c.from_residual-in_err-parent.result (p.1 ∙ ap (λ (x : Refused). Err x) p.2) (gentle_on c.args.space (g.P.Port.board c.args.port.now) (g.P.Port.board c.reach_kernel_of.new.port) (g.P.Port.board c.reach_space.new.port) c.args.owners.now c.reach_kernel_of.new.owners c.reach_space.new.owners (gentle_on c.args.space (g.P.Port.board c.args.port.now) (g.P.Port.board c.reach_receiver.new.port) (g.P.Port.board c.reach_kernel_of.new.port) c.args.owners.now c.reach_receiver.new.owners c.reach_kernel_of.new.owners c.reach_receiver.ensures.gentle c.reach_kernel_of.ensures.gentle) c.reach_space.ensures.gentle)
    (space_wants (g.P.Port.board c.args.port.now) (g.P.Port.board c.reach_receiver.new.port) c.args.owners.now c.reach_receiver.new.owners c.args.space c.args.trust (receiver_of c.args.owners.now (c.args.space, c.args.vpn)) c.in_ok-receiver.receiver c.reach_receiver.result c.in_ok-receiver.was c.reach_receiver.ensures.gentle c.reach_receiver.ensures.given (g.P.Port.board c.reach_kernel_of.new.port) c.reach_kernel_of.new.owners c.reach_kernel_of.result (c.reach_kernel_of.ensures.had refl) (g.P.Port.board c.reach_space.new.port) c.reach_space.new.owners c.reach_space.result (c.reach_space.ensures.had refl) c.reach_kernel_of.ensures.gentle c.reach_space.ensures.gentle c.in_err-parent.field-0.0 c.in_err-parent.was)

pub returns-in_err-note_row-clause-fills : goal.returns-in_err-note_row-clause-fills
returns-in_err-note_row-clause-fills g c =
    let p = err_from_is_err_and c.from_residual-in_err-note_row.result c.from_residual-in_err-note_row.ensures.1 in
    fills_unnoted c.args.space c.args.vpn c.args.trust c.args.owners.now c.reach_space.new.owners c.note_row.new.owners c.in_ok-kernel.kernel c.in_ok-parent.parent c.in_ok-receiver.receiver c.load_mapping-answer.result c.in_ok-parent.ensures.noted (g.P.Port.board c.args.port.now) (g.P.Port.board c.reach_space.new.port) (g.P.Port.board c.load_mapping-answer.new.self) (at_row (g.P.Port.board c.args.port.now) (g.P.Port.board c.reach_receiver.new.port) c.args.owners.now c.reach_receiver.new.owners c.args.space c.args.trust (receiver_of c.args.owners.now (c.args.space, c.args.vpn)) c.in_ok-receiver.receiver c.reach_receiver.result c.in_ok-receiver.was c.reach_receiver.ensures.gentle c.reach_receiver.ensures.given (g.P.Port.board c.reach_kernel_of.new.port) c.reach_kernel_of.new.owners c.reach_kernel_of.result (c.reach_kernel_of.ensures.had refl) (g.P.Port.board c.reach_space.new.port) c.reach_space.new.owners c.reach_space.result (c.reach_space.ensures.had refl) c.reach_kernel_of.ensures.gentle c.reach_space.ensures.gentle c.in_ok-kernel.kernel c.in_ok-parent.parent c.in_ok-kernel.was c.in_ok-parent.was) c.load_mapping-answer.ensures.call c.from_residual-in_err-note_row.result (p.1 ∙ ap (λ (x : Refused). Err x) p.2)
    (subst (AreWalked (g.P.Port.board c.args.port.now) (g.P.Port.board c.load_mapping-answer.new.self) c.args.owners.now) (sym (err_at c.note_row.result _ c.in_err-note_row.was c.note_row.ensures.same))
    (walked_on (g.P.Port.board c.args.port.now) (g.P.Port.board c.reach_space.new.port) (g.P.Port.board c.load_mapping-answer.new.self) c.args.owners.now c.reach_space.new.owners c.reach_space.new.owners (walked_on (g.P.Port.board c.args.port.now) (g.P.Port.board c.reach_kernel_of.new.port) (g.P.Port.board c.reach_space.new.port) c.args.owners.now c.reach_kernel_of.new.owners c.reach_space.new.owners (walked_on (g.P.Port.board c.args.port.now) (g.P.Port.board c.reach_receiver.new.port) (g.P.Port.board c.reach_kernel_of.new.port) c.args.owners.now c.reach_receiver.new.owners c.reach_kernel_of.new.owners c.reach_receiver.ensures.walked c.reach_kernel_of.ensures.walked) c.reach_space.ensures.walked) (row_asked c.reach_space.new.owners c.in_ok-kernel.kernel c.in_ok-parent.parent c.args.space c.args.vpn c.in_ok-receiver.receiver c.in_ok-parent.ensures.noted (g.P.Port.board c.reach_space.new.port) (g.P.Port.board c.load_mapping-answer.new.self) c.load_mapping-answer.result c.load_mapping-answer.ensures.call)))

pub returns-in_err-note_row-clause-vain : goal.returns-in_err-note_row-clause-vain
returns-in_err-note_row-clause-vain g c =
    let p = err_from_is_err_and c.from_residual-in_err-note_row.result c.from_residual-in_err-note_row.ensures.1 in
    vain_unnoted c.args.space c.args.vpn c.args.trust c.args.owners.now c.reach_space.new.owners c.note_row.new.owners c.in_ok-kernel.kernel c.in_ok-parent.parent c.in_ok-receiver.receiver c.load_mapping-answer.result c.in_ok-parent.ensures.noted (g.P.Port.board c.args.port.now) (g.P.Port.board c.reach_space.new.port) (g.P.Port.board c.load_mapping-answer.new.self) (at_row (g.P.Port.board c.args.port.now) (g.P.Port.board c.reach_receiver.new.port) c.args.owners.now c.reach_receiver.new.owners c.args.space c.args.trust (receiver_of c.args.owners.now (c.args.space, c.args.vpn)) c.in_ok-receiver.receiver c.reach_receiver.result c.in_ok-receiver.was c.reach_receiver.ensures.gentle c.reach_receiver.ensures.given (g.P.Port.board c.reach_kernel_of.new.port) c.reach_kernel_of.new.owners c.reach_kernel_of.result (c.reach_kernel_of.ensures.had refl) (g.P.Port.board c.reach_space.new.port) c.reach_space.new.owners c.reach_space.result (c.reach_space.ensures.had refl) c.reach_kernel_of.ensures.gentle c.reach_space.ensures.gentle c.in_ok-kernel.kernel c.in_ok-parent.parent c.in_ok-kernel.was c.in_ok-parent.was) c.load_mapping-answer.ensures.call c.from_residual-in_err-note_row.result (p.1 ∙ ap (λ (x : Refused). Err x) p.2)
    (subst (AreWalked (g.P.Port.board c.args.port.now) (g.P.Port.board c.load_mapping-answer.new.self) c.args.owners.now) (sym (err_at c.note_row.result _ c.in_err-note_row.was c.note_row.ensures.same))
    (walked_on (g.P.Port.board c.args.port.now) (g.P.Port.board c.reach_space.new.port) (g.P.Port.board c.load_mapping-answer.new.self) c.args.owners.now c.reach_space.new.owners c.reach_space.new.owners (walked_on (g.P.Port.board c.args.port.now) (g.P.Port.board c.reach_kernel_of.new.port) (g.P.Port.board c.reach_space.new.port) c.args.owners.now c.reach_kernel_of.new.owners c.reach_space.new.owners (walked_on (g.P.Port.board c.args.port.now) (g.P.Port.board c.reach_receiver.new.port) (g.P.Port.board c.reach_kernel_of.new.port) c.args.owners.now c.reach_receiver.new.owners c.reach_kernel_of.new.owners c.reach_receiver.ensures.walked c.reach_kernel_of.ensures.walked) c.reach_space.ensures.walked) (row_asked c.reach_space.new.owners c.in_ok-kernel.kernel c.in_ok-parent.parent c.args.space c.args.vpn c.in_ok-receiver.receiver c.in_ok-parent.ensures.noted (g.P.Port.board c.reach_space.new.port) (g.P.Port.board c.load_mapping-answer.new.self) c.load_mapping-answer.result c.load_mapping-answer.ensures.call)))

pub returns-clause-fills : goal.returns-clause-fills
returns-clause-fills g c =
    fills_asked c.args.space c.args.vpn c.args.trust c.args.owners.now c.reach_space.new.owners c.note_row.new.owners c.in_ok-kernel.kernel c.in_ok-parent.parent c.in_ok-receiver.receiver c.load_mapping-answer.result c.in_ok-parent.ensures.noted (g.P.Port.board c.args.port.now) (g.P.Port.board c.reach_space.new.port) (g.P.Port.board c.load_mapping-answer.new.self) (at_row (g.P.Port.board c.args.port.now) (g.P.Port.board c.reach_receiver.new.port) c.args.owners.now c.reach_receiver.new.owners c.args.space c.args.trust (receiver_of c.args.owners.now (c.args.space, c.args.vpn)) c.in_ok-receiver.receiver c.reach_receiver.result c.in_ok-receiver.was c.reach_receiver.ensures.gentle c.reach_receiver.ensures.given (g.P.Port.board c.reach_kernel_of.new.port) c.reach_kernel_of.new.owners c.reach_kernel_of.result (c.reach_kernel_of.ensures.had refl) (g.P.Port.board c.reach_space.new.port) c.reach_space.new.owners c.reach_space.result (c.reach_space.ensures.had refl) c.reach_kernel_of.ensures.gentle c.reach_space.ensures.gentle c.in_ok-kernel.kernel c.in_ok-parent.parent c.in_ok-kernel.was c.in_ok-parent.was) c.load_mapping-answer.ensures.call (ok_at c.note_row.result _ c.in_ok-note_row.was c.note_row.ensures.noted)

pub returns-clause-vain : goal.returns-clause-vain
returns-clause-vain g c =
    vain_asked c.args.space c.args.vpn c.args.trust c.args.owners.now c.reach_space.new.owners c.note_row.new.owners c.in_ok-kernel.kernel c.in_ok-parent.parent c.in_ok-receiver.receiver c.load_mapping-answer.result c.in_ok-parent.ensures.noted (g.P.Port.board c.args.port.now) (g.P.Port.board c.reach_space.new.port) (g.P.Port.board c.load_mapping-answer.new.self) (at_row (g.P.Port.board c.args.port.now) (g.P.Port.board c.reach_receiver.new.port) c.args.owners.now c.reach_receiver.new.owners c.args.space c.args.trust (receiver_of c.args.owners.now (c.args.space, c.args.vpn)) c.in_ok-receiver.receiver c.reach_receiver.result c.in_ok-receiver.was c.reach_receiver.ensures.gentle c.reach_receiver.ensures.given (g.P.Port.board c.reach_kernel_of.new.port) c.reach_kernel_of.new.owners c.reach_kernel_of.result (c.reach_kernel_of.ensures.had refl) (g.P.Port.board c.reach_space.new.port) c.reach_space.new.owners c.reach_space.result (c.reach_space.ensures.had refl) c.reach_kernel_of.ensures.gentle c.reach_space.ensures.gentle c.in_ok-kernel.kernel c.in_ok-parent.parent c.in_ok-kernel.was c.in_ok-parent.was) c.load_mapping-answer.ensures.call (ok_at c.note_row.result _ c.in_ok-note_row.was c.note_row.ensures.noted)
    (walked_on (g.P.Port.board c.args.port.now) (g.P.Port.board c.reach_space.new.port) (g.P.Port.board c.load_mapping-answer.new.self) c.args.owners.now c.reach_space.new.owners c.note_row.new.owners (walked_on (g.P.Port.board c.args.port.now) (g.P.Port.board c.reach_kernel_of.new.port) (g.P.Port.board c.reach_space.new.port) c.args.owners.now c.reach_kernel_of.new.owners c.reach_space.new.owners (walked_on (g.P.Port.board c.args.port.now) (g.P.Port.board c.reach_receiver.new.port) (g.P.Port.board c.reach_kernel_of.new.port) c.args.owners.now c.reach_receiver.new.owners c.reach_kernel_of.new.owners c.reach_receiver.ensures.walked c.reach_kernel_of.ensures.walked) c.reach_space.ensures.walked) (row_noted_so c.reach_space.new.owners c.in_ok-kernel.kernel c.in_ok-parent.parent c.args.space c.args.vpn c.in_ok-receiver.receiver c.in_ok-parent.ensures.noted (g.P.Port.board c.reach_space.new.port) (g.P.Port.board c.load_mapping-answer.new.self) c.load_mapping-answer.result c.load_mapping-answer.ensures.call c.note_row.new.owners (ok_at c.note_row.result _ c.in_ok-note_row.was c.note_row.ensures.noted)))
