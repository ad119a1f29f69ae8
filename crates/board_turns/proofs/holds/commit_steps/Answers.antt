use Rattle.std.proofs.Common.{◌<◌, length, Some, ap, ◌∙◌, arith, inl, inr}
use Rattle.cache_board.specs.board_ops.specs.declared.refusals.Refused.{Refused}
use Rattle.cache_board.specs.run_journal.specs.Entries.{Written}
use Rattle.board_turns.proofs.Fewer.{fewer_left}
use Rattle.board_turns.proofs.Later.{kept_commit}
use Rattle.board_turns.proofs.holds.commit_steps.Goals as goal

few : (c : goal.After-row_known-1) → c.in-Err-Over.left < c.args.quantum.now.steps
few c = elim c.in-Err-Over.ensures.refused.why [
  | inl none ↦ absurd (let is = c.in-Err-Over.field-0-is in cc)
  | inr some ↦ fewer_left c.in-Err-Over.left c.args.board.now c.args.ticket.now c.args.quantum.now (some ∙ ap (λ (x : Refused). Some x) c.in-Err-Over.field-0-is)
]

pub overflow_cast-result : goal.overflow_cast-result
overflow_cast-result c = let left = few c in omega (arith, left, c.steps-steps.ensures.steps, c.steps-steps.type_inv)

pub returns-in-Err-Over-clause-fewer : goal.returns-in-Err-Over-clause-fewer
returns-in-Err-Over-clause-fewer c = few c

pub returns-then-steps-gt0-clause-kept : goal.returns-then-steps-gt0-clause-kept
returns-then-steps-gt0-clause-kept c =
    let taken = c.in-Ok.ensures.steps in
    let more = c.if-steps-gt0.true in
    kept_commit c.args.ticket.now.cpu c.args.board.now c.commit.new.self c.commit.ensures.event c.args.quantum.now c.requires.views.kept c.args.ticket.now c.happened.new.self c.len.result
    (c.len.ensures ∙ ap (λ (w : Written). length w.entries) c.journal.ensures) c.happened.ensures c.in-Ok.ensures.committed (omega (arith, taken, more))
