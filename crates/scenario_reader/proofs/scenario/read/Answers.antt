use Rattle.std.proofs.Common.{List, Result, subst, arith}
use Rattle.std.proofs.lemmas.Result.{err_from_is_err_and}
use Rattle.flat_machine.specs.flat_state.specs.declared.events.Decl.{Decl}
use Rattle.text_fields.specs.Lines.{lines}
use Rattle.scenario_reader.specs.declared.fault.ScenarioFault.{ScenarioFault}
use Rattle.scenario_reader.specs.Readings.{Answers}
use Rattle.scenario_reader.specs.Scenarios.{scenario}
use Rattle.scenario_reader.specs.Views.{reader_view}
use Rattle.scenario_reader.proofs.Goes.{begins, some_more, at_some, at_none, shorter_at, line_more, line_last, line_fails}
use Rattle.scenario_reader.proofs.Whole.{answer_whole}
use Rattle.scenario_reader.proofs.Kernels.{answer_kernel}
use Rattle.scenario_reader.proofs.scenario.read.Goals as goal

pub loop-reader-init : goal.loop-reader-init
loop-reader-init c = record { meant = begins (reader_view c.new-reader.result) c.args.text.now c.new-reader.ensures; few = omega arith }

pub returns-in_err-step-clause-meant : goal.returns-in_err-step-clause-meant
returns-in_err-step-clause-meant c =
    let p = err_from_is_err_and c.from_residual.result c.from_residual.ensures.1 in
    let first = some_more (lines c.loop-reader.rest.now) c.next_line.result.0.now c.next_line.result.1 c.next_line.ensures.first in
    rw (p.1, p.2) (line_fails c.loop-reader.number (reader_view c.loop-reader.reader) c.next_line.result.0.now (lines c.loop-reader.rest.now) first.0 (scenario c.args.text.now) c.in_err-step.field-0.0 c.loop-reader.invariant.meant first.1 c.in_err-step.ensures)

pub loop-reader-preserved : goal.loop-reader-preserved
loop-reader-preserved c =
    let first = at_some (lines c.loop-reader.rest.now) c.next_line.result.0.now c.next_line.result.1 c.in-Some.next c.next_line.ensures.first c.in-Some.is in
    let shorter = shorter_at c.loop-reader.rest.now c.next_line.result.1 c.in-Some.next c.next_line.ensures.shorter c.in-Some.is in
    record {
      meant = line_more c.loop-reader.number (reader_view c.loop-reader.reader) (reader_view c.step.new.self) c.next_line.result.0.now (lines c.loop-reader.rest.now) (lines c.in-Some.next.now) (scenario c.args.text.now) c.loop-reader.invariant.meant first c.in_ok-step.ensures;
      few = omega (arith, c.loop-reader.invariant.few, shorter);
    }

pub returns-in-None-clause-meant : goal.returns-in-None-clause-meant
returns-in-None-clause-meant c =
    let first = at_none (lines c.loop-reader.rest.now) c.next_line.result.0.now c.next_line.result.1 c.next_line.ensures.first c.in-None.is in
    let last = line_last c.loop-reader.number (reader_view c.loop-reader.reader) (reader_view c.step.new.self) c.next_line.result.0.now (lines c.loop-reader.rest.now) (scenario c.args.text.now) c.loop-reader.invariant.meant first c.in_ok-step.ensures in
    subst (λ (m : Result (List Decl) ScenarioFault). Answers (λ s. s) c.finish.result m) last c.finish.ensures

pub returns-in-None-clause-fit : goal.returns-in-None-clause-fit
returns-in-None-clause-fit c =
    let first = at_none (lines c.loop-reader.rest.now) c.next_line.result.0.now c.next_line.result.1 c.next_line.ensures.first c.in-None.is in
    let last = line_last c.loop-reader.number (reader_view c.loop-reader.reader) (reader_view c.step.new.self) c.next_line.result.0.now (lines c.loop-reader.rest.now) (scenario c.args.text.now) c.loop-reader.invariant.meant first c.in_ok-step.ensures in
    answer_whole c.args.text.now c.finish.result (subst (λ (m : Result (List Decl) ScenarioFault). Answers (λ s. s) c.finish.result m) last c.finish.ensures)

pub returns-in-None-clause-kernel : goal.returns-in-None-clause-kernel
returns-in-None-clause-kernel c =
    let first = at_none (lines c.loop-reader.rest.now) c.next_line.result.0.now c.next_line.result.1 c.next_line.ensures.first c.in-None.is in
    let last = line_last c.loop-reader.number (reader_view c.loop-reader.reader) (reader_view c.step.new.self) c.next_line.result.0.now (lines c.loop-reader.rest.now) (scenario c.args.text.now) c.loop-reader.invariant.meant first c.in_ok-step.ensures in
    answer_kernel c.args.text.now c.finish.result (subst (λ (m : Result (List Decl) ScenarioFault). Answers (λ s. s) c.finish.result m) last c.finish.ensures)
