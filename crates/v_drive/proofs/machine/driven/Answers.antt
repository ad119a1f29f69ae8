use Rattle.std.proofs.Common.{◌≡◌, ◌++◌, List, ℕ, ap, sym, subst, ◌∙◌}
use Rattle.std.proofs.lemmas.Result.{IfOk-weaker}
use Rattle.v_drive.specs.Lines.{IsTaken}
use Rattle.board_opening.specs.Openings.{IsBoardOf}
use Rattle.v_drive.proofs.Answering.{answered}
use Rattle.v_drive.proofs.Taking.{clear_views}
use Rattle.v_drive.proofs.machine.driven.Goals as goal

-- nothing lies on a new desk
pub take_lines-requires-clause-views : goal.take_lines-requires-clause-views
take_lines-requires-clause-views c = clear_views c.in_ok-board.board.journal.entries c.in_ok-desk.desk c.in_ok-desk.ensures

pub returns : goal.returns
returns c =
    let one = c.in_ok-fault.ensures in
    let all : one.0 ≡ c.take_lines.new.self.text.items = sym (one.1 ∙ ap (λ (x : List ℕ). x ++ one.0) c.new-text.ensures.items) in
    let made = subst (λ (limit : ℕ). IsBoardOf c.args.decls.now limit c.in_ok-board.board) c.from.ensures c.in_ok-board.ensures in
    let taken = subst (λ (x : List ℕ). IsTaken c.args.lines.now c.args.number c.in_ok-fault.fault c.in_ok-board.board c.in_ok-desk.desk x c.take_lines.new.self.board c.take_lines.new.self.desk) all one.2 in
    IfOk-weaker c.ended.result _ _ (λ d h input is behind first. answered c.args.steps c.args.number input c.args.lines.now c.args.decls.now c.in_ok-fault.fault c.take_lines.new.self.text.items d.ending d.text.items c.in_ok-board.board c.take_lines.new.self.board c.in_ok-desk.desk c.take_lines.new.self.desk is behind first made c.in_ok-desk.ensures taken h) c.ended.ensures
