use Rattle.std.proofs.Common.{◌≡◌, ℕ, subst, arith}
use Rattle.board_calls.specs.Leaving.{AddsThose, IsRowInGroup}
use Rattle.board_calls.proofs.LoopLaws.{group_first, group_more}
use Rattle.board_calls.proofs.leaving.add_unfit.Goals as goal

pub loop-number-init : goal.loop-number-init
loop-number-init c = group_first c.args.machine.now c.args.grant.now c.args.idents.now.items

pub loop-number-preserved : goal.loop-number-preserved
loop-number-preserved c =
    group_more c.args.machine.now c.args.grant.now c.loop-number.number c.args.idents.now.items c.loop-number.idents.items c.add_going.new.idents.items
    c.loop-number.invariant c.in_ok-add_going.ensures

pub returns : goal.returns
returns c =
    let all : c.loop-number.number ≡ 128 = omega arith in
    subst (λ (n : ℕ). AddsThose (IsRowInGroup c.args.machine.now c.args.grant.now n) c.args.idents.now.items c.loop-number.idents.items) all c.loop-number.invariant
