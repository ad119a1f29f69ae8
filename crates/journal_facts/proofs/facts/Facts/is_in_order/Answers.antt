use Rattle.std.proofs.Common.{sym, ◌∙◌}
use Rattle.std.proofs.lemmas.Bool.{false≢true}
use Rattle.journal_facts.proofs.facts.Facts.is_in_order.Goals as goal

pub returns-then-is_met : goal.returns-then-is_met
returns-then-is_met c = λ k are.
    let place = c.is_in_place.ensures k are in
    (λ e. ((c.is_met.ensures k.due are.due).0 c.if-is_met.true, place.0 e), λ both. place.1 both.1)

pub returns-else-is_met : goal.returns-else-is_met
returns-else-is_met c = λ k are.
    let met = c.is_met.ensures k.due are.due in
    (λ e. absurd (false≢true (sym c.if-is_met.false ∙ e)), λ both. met.1 both.0)
