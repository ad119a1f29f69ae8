use Rattle.std.proofs.Common.{List, ap, sym, ◌∙◌}
use Rattle.rv32_exec.specs.Pages.{Page}
use Rattle.rv32_exec.proofs.StepChanges.{missed-map}
use Rattle.quantum.specs.Ahead.{views_with}
use Rattle.quantum.proofs.ViewPages.{same_table, table_from}
use Rattle.quantum.proofs.ahead.take.Goals as goal

pub returns-clause-views : goal.returns-clause-views
returns-clause-views c =
    let t = c.args.views.now in
    sym (table_from t c.step.new.space c.step.ensures.kept)
    ∙ ap (λ (ps : List Page). record t { views = views_with t.views ps }) c.step.ensures.after.pages_are

pub returns-clause-missed : goal.returns-clause-missed
returns-clause-missed c =
    missed-map c.step.result (λ both. (both.0, same_table c.args.views.now c.step.new.space c.step.ensures.kept both.1)) c.step.ensures.missed
