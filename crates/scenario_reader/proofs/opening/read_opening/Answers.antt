use Rattle.std.proofs.Common.{List, Result, subst, arith}
use Rattle.std.proofs.lemmas.Result.{err_from_is_err_and}
use Rattle.flat_machine.specs.flat_state.specs.declared.events.Decl.{Decl}
use Rattle.text_fields.specs.Lines.{lines}
use Rattle.scenario_reader.specs.declared.fault.ScenarioFault.{ScenarioFault}
use Rattle.scenario_reader.specs.Readings.{Answers}
use Rattle.scenario_reader.specs.Openings.{opening}
use Rattle.scenario_reader.specs.Views.{reader_view}
use Rattle.scenario_reader.proofs.Goes.{some_more, at_some, at_none, shorter_at}
use Rattle.scenario_reader.proofs.OpeningLaws.{opening_begins, opening_line_more, opening_line_last, opening_line_fails, opening_alike, answer_begins, fit_of, machine_of}
use Rattle.scenario_reader.proofs.opening.read_opening.Goals as goal

pub loop-reader-init : goal.loop-reader-init
loop-reader-init c = record { meant = opening_begins (reader_view c.new-reader.result) c.args.text.now c.new-reader.ensures; few = omega arith }

pub returns-in_err-step_of_opening-clause-meant : goal.returns-in_err-step_of_opening-clause-meant
returns-in_err-step_of_opening-clause-meant c =
    let p = err_from_is_err_and c.from_residual.result c.from_residual.ensures.1 in
    let first = some_more (lines c.loop-reader.rest.now) c.next_line.result.0.now c.next_line.result.1 c.next_line.ensures.first in
    rw (p.1, p.2) (opening_line_fails c.loop-reader.number (reader_view c.loop-reader.reader) c.next_line.result.0.now (lines c.loop-reader.rest.now) first.0 (opening c.args.text.now) c.in_err-step_of_opening.field-0.0 c.loop-reader.invariant.meant first.1 c.in_err-step_of_opening.ensures)

pub returns-in_err-step_of_opening-clause-alike : goal.returns-in_err-step_of_opening-clause-alike
returns-in_err-step_of_opening-clause-alike c = opening_alike c.args.text.now

pub loop-reader-preserved : goal.loop-reader-preserved
loop-reader-preserved c =
    let first = at_some (lines c.loop-reader.rest.now) c.next_line.result.0.now c.next_line.result.1 c.in-Some.next c.next_line.ensures.first c.in-Some.is in
    let shorter = shorter_at c.loop-reader.rest.now c.next_line.result.1 c.in-Some.next c.next_line.ensures.shorter c.in-Some.is in
    record {
      meant = opening_line_more c.loop-reader.number (reader_view c.loop-reader.reader) (reader_view c.step_of_opening.new.self) c.next_line.result.0.now (lines c.loop-reader.rest.now) (lines c.in-Some.next.now) (opening c.args.text.now) c.loop-reader.invariant.meant first c.in_ok-step_of_opening.ensures;
      few = omega (arith, c.loop-reader.invariant.few, shorter);
    }

pub returns-in-None-clause-meant : goal.returns-in-None-clause-meant
returns-in-None-clause-meant c =
    let first = at_none (lines c.loop-reader.rest.now) c.next_line.result.0.now c.next_line.result.1 c.next_line.ensures.first c.in-None.is in
    let last = opening_line_last c.loop-reader.number (reader_view c.loop-reader.reader) (reader_view c.step_of_opening.new.self) c.next_line.result.0.now (lines c.loop-reader.rest.now) (opening c.args.text.now) c.loop-reader.invariant.meant first c.in_ok-step_of_opening.ensures in
    subst (λ (m : Result (List Decl) ScenarioFault). Answers (λ s. s) c.finish.result m) last c.finish.ensures

pub returns-in-None-clause-fit : goal.returns-in-None-clause-fit
returns-in-None-clause-fit c =
    let first = at_none (lines c.loop-reader.rest.now) c.next_line.result.0.now c.next_line.result.1 c.next_line.ensures.first c.in-None.is in
    let last = opening_line_last c.loop-reader.number (reader_view c.loop-reader.reader) (reader_view c.step_of_opening.new.self) c.next_line.result.0.now (lines c.loop-reader.rest.now) (opening c.args.text.now) c.loop-reader.invariant.meant first c.in_ok-step_of_opening.ensures in
    fit_of c.finish.result (answer_begins c.args.text.now c.finish.result (subst (λ (m : Result (List Decl) ScenarioFault). Answers (λ s. s) c.finish.result m) last c.finish.ensures))

pub returns-in-None-clause-machine : goal.returns-in-None-clause-machine
returns-in-None-clause-machine c =
    let first = at_none (lines c.loop-reader.rest.now) c.next_line.result.0.now c.next_line.result.1 c.next_line.ensures.first c.in-None.is in
    let last = opening_line_last c.loop-reader.number (reader_view c.loop-reader.reader) (reader_view c.step_of_opening.new.self) c.next_line.result.0.now (lines c.loop-reader.rest.now) (opening c.args.text.now) c.loop-reader.invariant.meant first c.in_ok-step_of_opening.ensures in
    machine_of c.finish.result (answer_begins c.args.text.now c.finish.result (subst (λ (m : Result (List Decl) ScenarioFault). Answers (λ s. s) c.finish.result m) last c.finish.ensures))

pub returns-in-None-clause-alike : goal.returns-in-None-clause-alike
returns-in-None-clause-alike c = opening_alike c.args.text.now
