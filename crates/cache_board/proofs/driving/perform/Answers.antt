use Rattle.std.proofs.Common.{sym, subst}
use Rattle.board_core.specs.board_ops.specs.declared.ops.Op.{Op}
use Rattle.cache_board.specs.Drive.{IsDone}
use Rattle.cache_board.proofs.DriveLaws.{heal_done, row_done}
use Rattle.cache_board.proofs.driving.perform.Goals as goal

pub returns-in-LoadMapping : goal.returns-in-LoadMapping
returns-in-LoadMapping c =
    let e = c.load_mapping.ensures in
    let a = c.in-LoadMapping in
    let b = c.args.board.now in
    let d = c.args.desk.now in
    let after = c.load_mapping.new.self in
    let answer = c.loaded-in-LoadMapping in
    subst (λ (op : Op). IsDone op b d answer.result after d) (sym a.is)
    (row_done a.cpu a.caller a.parent a.vpn a.receiver b after d c.load_mapping.result answer.result answer.ensures e.refused e.done e.loaded e.enough)

pub returns-in-HealStep : goal.returns-in-HealStep
returns-in-HealStep c =
    let e = c.heal_step.ensures in
    let a = c.in-HealStep in
    let b = c.args.board.now in
    let d = c.args.desk.now in
    let after = c.heal_step.new.self in
    let answer = c.did-in-HealStep in
    subst (λ (op : Op). IsDone op b d answer.result after d) (sym a.is)
    (heal_done a.cpu a.thread b d after c.heal_step.result answer.result answer.ensures e.refused e.done e.healed e.enough)
