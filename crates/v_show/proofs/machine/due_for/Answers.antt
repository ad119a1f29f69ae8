use Rattle.std.proofs.Common.{ℕ, subst}
use Rattle.check_mode.specs.Answers.{IsChecked}
use Rattle.v_show.proofs.Answering.{answered}
use Rattle.v_show.proofs.machine.due_for.Goals as goal

pub returns-in_ok-shown-in-Ok-clause-due : goal.returns-in_ok-shown-in-Ok-clause-due
returns-in_ok-shown-in-Ok-clause-due c =
    let checked = subst (λ (limit : ℕ). IsChecked c.args.bytes.now limit c.in-Ok.checked) c.from.ensures c.in-Ok.ensures.answer in
    answered c.args.options c.args.bytes.now c.in-Ok.checked _ _ checked c.in_ok-shown-in-Ok.ensures
