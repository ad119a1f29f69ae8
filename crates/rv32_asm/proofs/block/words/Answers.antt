use Rattle.std.proofs.Common.{arith, sym, ◌∙◌}
use Rattle.std.proofs.lemmas.List.{nil_from_length}
use Rattle.std.proofs.lemmas.Result.{err_from_is_err_and}
use Rattle.std.proofs.lemmas.Bool.{eqb-true}
use Rattle.rv32_asm.specs.Labels.{marks_of}
use Rattle.rv32_asm.proofs.Words.{stands_more, stands_fails, stands_all}
use Rattle.rv32_asm.proofs.block.words.Goals as goal

pub loop-rest-preserved : goal.loop-rest-preserved
loop-rest-preserved c =
    stands_more c.args.block.now c.args.room (marks_of c.args.labels.now) c.loop-rest.words.items c.put.new.words.items c.loop-rest.at c.in_ok-at.at c.loop-rest.rest.now c.next_line.result.0.now c.next_line.result.1.now c.loop-rest.invariant
    c.next_line.ensures.first (omega (arith, c.next_line.ensures.shorter)) c.in_ok-at.ensures.0 c.in_ok-at.ensures.1

pub returns-in_err-at : goal.returns-in_err-at
returns-in_err-at c =
    let p = err_from_is_err_and c.from_residual.result c.from_residual.ensures.1 in
    rw (p.1, p.2) (stands_fails c.args.block.now c.args.room (marks_of c.args.labels.now) c.loop-rest.words.items c.loop-rest.at c.loop-rest.rest.now c.next_line.result.0.now c.next_line.result.1.now c.in_err-at.field-0.0 c.loop-rest.invariant c.next_line.ensures.first c.in_err-at.ensures)

pub returns : goal.returns
returns c = stands_all c.args.block.now c.args.room (marks_of c.args.labels.now) c.loop-rest.words.items c.loop-rest.at c.loop-rest.rest.now c.loop-rest.invariant (nil_from_length c.loop-rest.rest.now (eqb-true _ _ (sym c.is_empty.ensures ∙ c.loop-rest-test.false)))
