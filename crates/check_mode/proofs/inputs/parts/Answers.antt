use Rattle.std.proofs.Common.{◌≡◌, ◌-◌, true, false, List, ℕ, length, take, drop, ap, sym, subst, ◌∙◌}
use Rattle.check_mode.specs.Parts.{is_end}
use Rattle.check_mode.proofs.Cuts.{IsBehind, one_more, scenario_before, journal_behind, all_scenario, no_journal}
use Rattle.check_mode.proofs.inputs.parts.Goals as goal

pub returns-then-is_end-clause-scenario : goal.returns-then-is_end-clause-scenario
returns-then-is_end-clause-scenario c =
    let text = c.args.text.now in
    let rest = c.loop-at.rest.now in
    let at = c.in-Some.at in
    let ends : is_end (take at rest) ≡ true = ap is_end (sym c.split_at.ensures.front) ∙ sym c.is_end.ensures ∙ c.if-is_end.true in
    c.split_at-then-is_end.ensures.front ∙ ap (λ (behind : List ℕ). take (length text - length behind) text) c.split_at-in-Some.ensures.back
    ∙ scenario_before text rest at c.loop-at.invariant c.in-Some.ensures.is c.in-Some.ensures.within ends

pub returns-then-is_end-clause-journal : goal.returns-then-is_end-clause-journal
returns-then-is_end-clause-journal c =
    let text = c.args.text.now in
    let rest = c.loop-at.rest.now in
    let at = c.in-Some.at in
    let ends : is_end (take at rest) ≡ true = ap is_end (sym c.split_at.ensures.front) ∙ sym c.is_end.ensures ∙ c.if-is_end.true in
    c.split_at-then-is_end.ensures.back ∙ ap (λ (behind : List ℕ). drop (length text - length behind) text) c.split_at-in-Some.ensures.back
    ∙ journal_behind text rest at c.loop-at.invariant c.in-Some.ensures.is c.in-Some.ensures.within ends

pub loop-at-preserved : goal.loop-at-preserved
loop-at-preserved c =
    let text = c.args.text.now in
    let rest = c.loop-at.rest.now in
    let at = c.in-Some.at in
    let other : is_end (take at rest) ≡ false = ap is_end (sym c.split_at.ensures.front) ∙ sym c.is_end.ensures ∙ c.if-is_end.false in
    subst (IsBehind text) (sym c.split_at-in-Some.ensures.back) (one_more text rest at c.loop-at.invariant c.in-Some.ensures.is c.in-Some.ensures.within other)

pub returns-clause-scenario : goal.returns-clause-scenario
returns-clause-scenario c = all_scenario c.args.text.now c.loop-at.rest.now c.loop-at.invariant c.in_default.ensures.is

pub returns-clause-journal : goal.returns-clause-journal
returns-clause-journal c = no_journal c.args.text.now c.loop-at.rest.now c.loop-at.invariant c.in_default.ensures.is
