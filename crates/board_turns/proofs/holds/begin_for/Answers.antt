use Rattle.std.proofs.Common.{◌∙◌}
use Rattle.board_turns.proofs.Later.{begun_ready}
use Rattle.board_turns.proofs.Paging.{same_steps}
use Rattle.board_turns.proofs.holds.begin_for.Goals.{else-can_fill-via-then-can_fill+else-is_err, else-can_fill-via-else-can_fill}
use Rattle.board_turns.proofs.holds.begin_for.Goals as goal

pub loop-place-init : goal.loop-place-init
loop-place-init c =
    let begun = begun_ready c.args.board.now.journal.entries c.args.quantum.now c.begin.new.self c.args.ticket.now c.begin.ensures c.requires.kept in
    record { views = begun.0; steps = begun.1 }

pub loop-place-preserved : goal.loop-place-preserved
loop-place-preserved c =
    let loop = c.loop-place in
    elim c.else-can_fill.branch [
      | else-can_fill-via-then-can_fill+else-is_err w ↦ let page = w.page in rw w.quantum-is (record {
        views = page.ensures.views loop.invariant.views;
        steps = same_steps c.args.board.now c.args.ticket.now c.in-Some.vpn loop.quantum page.new.quantum page.result page.ensures.refused page.ensures.filled ∙ loop.invariant.steps;
      })
      | else-can_fill-via-else-can_fill w ↦ rw w.quantum-is loop.invariant
    ]
