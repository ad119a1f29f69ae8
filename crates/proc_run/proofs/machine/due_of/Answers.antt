use Rattle.std.proofs.Common.{subst, sym}
use Rattle.std.proofs.lemmas.Result.{IfOk-weaker}
use Rattle.due_text.specs.Inputs.{IsInput, IsWhole}
use Rattle.proc_run.proofs.Answered.{by_text, from_source}
use Rattle.proc_run.proofs.machine.due_of.Goals as goal

pub returns-in-Whole-clause-due : goal.returns-in-Whole-clause-due
returns-in-Whole-clause-due g c =
    let o = c.args.options.now in
    let bytes = g.S.Source.bytes_left c.args.source.now in
    let left = g.S.Source.bytes_left c.read_input.new.source in
    let bs = c.deref.result.now in
    let whole : IsWhole bytes left c.in-Whole.bytes.items = subst (IsInput bytes left) c.in-Whole.is c.in_ok-bytes.ensures.came in
    let from = from_source o.mode o.seed bytes left bs c.requires.reads (subst (IsWhole bytes left) (sym c.deref.ensures.value) whole) in
    IfOk-weaker c.due_for.result _ _ (λ d h. by_text o bytes left bs d.status d.kept d.text.items from h) c.due_for.ensures.due
