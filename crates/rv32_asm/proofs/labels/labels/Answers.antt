use Rattle.std.proofs.Common.{arith, sym, ◌∙◌}
use Rattle.std.proofs.lemmas.List.{nil_from_length}
use Rattle.std.proofs.lemmas.Bool.{eqb-true}
use Rattle.rv32_asm.specs.Labels.{marks_of}
use Rattle.rv32_asm.proofs.Marks.{marked_more, marked_all}
use Rattle.rv32_asm.proofs.labels.labels.Goals as goal

pub loop-rest-preserved : goal.loop-rest-preserved
loop-rest-preserved c =
    marked_more c.args.block.now (marks_of c.loop-rest.labels) (marks_of c.pass_line.new.labels) c.loop-rest.at c.in_ok-at.at c.loop-rest.rest.now c.next_line.result.0.now c.next_line.result.1.now c.loop-rest.invariant
    c.next_line.ensures.first (omega (arith, c.next_line.ensures.shorter)) c.in_ok-at.ensures.bound.0 c.in_ok-at.ensures.bound.1

pub returns-clause-found : goal.returns-clause-found
returns-clause-found c = marked_all c.args.block.now (marks_of c.loop-rest.labels) c.loop-rest.at c.loop-rest.rest.now c.loop-rest.invariant (nil_from_length c.loop-rest.rest.now (eqb-true _ _ (sym c.is_empty.ensures ∙ c.loop-rest-test.false)))
