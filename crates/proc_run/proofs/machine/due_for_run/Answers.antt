use Rattle.std.proofs.Common.{sym, ap₂, ◌∙◌}
use Rattle.scenario_reader.specs.declared.fault.ScenarioFault.TheVariants.{Bad}
use Rattle.proc_run.proofs.Answered.{first_fault}
use Rattle.proc_run.proofs.Opened.{fits_and_begins}
use Rattle.proc_run.proofs.machine.due_for_run.Goals as goal

pub returns-in_ok-faulty-in-Err-Bad-clause-due : goal.returns-in_ok-faulty-in-Err-Bad-clause-due
returns-in_ok-faulty-in-Err-Bad-clause-due g c =
    let bad = c.in-Err-Bad in
    let is = bad.field-0-is ∙ sym (ap₂ (λ line rule. Bad line rule) bad.line-is bad.rule-is) in
    let made = c.in_ok-faulty-in-Err-Bad.ensures in
    rw (made.status, made.kept) (first_fault c.args.bytes.now bad.field-0 _ _ is bad.ensures.meant, made.text)

pub answered-requires-clause-machine : goal.answered-requires-clause-machine
answered-requires-clause-machine g c = λ lifetimes within.
    let begins = (fits_and_begins c.args.bytes.now c.in-Ok.scenario c.in-Ok.ensures.meant).1 in
    (begins.0, begins.1, c.decls.ensures ∙ begins.2)
