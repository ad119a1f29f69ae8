use Rattle.std.proofs.Common.{◌≡◌, Err, List, ℕ, sym, ap₂, subst, ◌∙◌, ◌⊎◌}
use Rattle.scenario_reader.specs.declared.fault.ScenarioFault.TheVariants.{Bad, NoMemory}
use Rattle.scenario_reader.specs.Openings.{opening}
use Rattle.v_drive.proofs.Answering.{first_fault}
use Rattle.v_drive.proofs.machine.due_for.Goals as goal

pub returns-in_ok-faulty-in-Err-Bad-clause-due : goal.returns-in_ok-faulty-in-Err-Bad-clause-due
returns-in_ok-faulty-in-Err-Bad-clause-due c =
    let bad = c.in-Err-Bad in
    let is = bad.field-0-is ∙ sym (ap₂ (λ line rule. Bad line rule) bad.line-is bad.rule-is) in
    let made = c.in_ok-faulty-in-Err-Bad.ensures in
    rw made.ending (first_fault _ bad.field-0 _ _ is (subst (λ (x : List ℕ). (bad.field-0 ≡ NoMemory) ⊎ (opening x ≡ Err bad.field-0)) c.parts.ensures.scenario bad.ensures.meant), made.text)
