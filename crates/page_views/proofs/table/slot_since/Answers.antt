-- Where no slot behind the views keeps such, none does, and else the first one that does is found.
use Rattle.std.proofs.Common.{◌≡◌, ℕ, ◌-◌, ◌<◌, List, length, take, drop, Option, Some, None, arith, length-drop, sym, subst}
use Rattle.std.specs.Prelude.{IfNone}
use Rattle.std.specs.List.{position}
use Rattle.std.proofs.lemmas.List.{take_all}
use Rattle.page_views.specs.Views.{View}
use Rattle.page_views.proofs.Keeping.{keeps, none_since, slot_found}
use Rattle.page_views.proofs.table.slot_since.Goals as goal

-- what holds in any case does where there is none
if_none : (P : Type 0) (o : Option ℕ) → P → IfNone o P
if_none P None holds = holds
if_none P (Some n) holds = tt

-- all that lies behind so many
behind : (n : ℕ) (slots : List View) → take (length slots - n) (drop n slots) ≡ drop n slots
behind n slots = take_all (length slots - n) (drop n slots) (omega (arith, length-drop n slots))

pub returns-in_err-behind-clause-none : goal.returns-in_err-behind-clause-none
returns-in_err-behind-clause-none c =
    let frame = c.args.frame in
    let since = c.args.since in
    if_none _ c.from_residual.result
    (none_since frame since (drop c.args.count c.args.views.now)
    (subst (λ (slots : List View). position (keeps frame since) slots ≡ None) (behind c.args.count c.args.views.now) (sym c.in_err-behind.ensures.place)))

pub returns-clause-found : goal.returns-clause-found
returns-clause-found c =
    let frame = c.args.frame in
    let since = c.args.since in
    let n = c.args.count in
    let slots = c.args.views.now in
    let i = c.in_ok-behind.behind in
    slot_found frame since slots n i
    (subst (λ (vs : List View). position (keeps frame since) vs ≡ Some i) (behind n slots) (sym c.in_ok-behind.ensures.place))
    (subst (λ (vs : List View). i < length vs) (behind n slots) c.in_ok-behind.ensures.within)
