use Rattle.std.proofs.Common.{◌≡◌, List, ◌++◌, ℕ, take, ap, subst, ◌∙◌, arith}
use Rattle.std.specs.Prelude.{codes}
use Rattle.std.specs.List.{AllByRecursion, flat_map}
use Rattle.std.proofs.lemmas.List.{take_all}
use Rattle.journal_text.specs.Ranges.{IsDeclInRange}
use Rattle.scenario_reader.specs.Scenarios.{scenario}
use Rattle.scenario_print.specs.Texts.{decl_text, scenario_text}
use Rattle.scenario_print.proofs.Again.{scenario_again}
use Rattle.scenario_print.proofs.printing.print.Goals as goal

pub returns-clause-again : goal.returns-clause-again
returns-clause-again c fit kernels =
    let ds = c.args.scenario.now in
    let items = c.decls-decl-items.result.now in
    let whole : take c.loop-decl.decl-index items ≡ ds = take_all c.loop-decl.decl-index items (omega (arith, c.loop-decl-test.false)) ∙ c.decls-decl-items.ensures in
    let text : c.extend_from_slice.new.self.items ≡ scenario_text ds = c.in_ok-extend_from_slice.ensures.items ∙ ap (λ (x : List ℕ). x ++ codes "end\n") (c.loop-decl.invariant.0 ∙ ap (flat_map decl_text) whole) in
    ap scenario text ∙ scenario_again ds fit (subst (AllByRecursion IsDeclInRange) whole c.loop-decl.invariant.1) kernels
