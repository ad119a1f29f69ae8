use Rattle.journal_check.proofs.AtPlaces.{refuted, breaks_beginning, breaks_order}
use Rattle.journal_check.proofs.places.first_broken.Goals as goal

pub returns-then-not-begins : goal.returns-then-not-begins
returns-then-not-begins c k facts = breaks_beginning c.args.decls.now _ (refuted c.begins.result c.if-not-begins.true c.begins.ensures)

pub returns-then-not-is_in_order : goal.returns-then-not-is_in_order
returns-then-not-is_in_order c k facts =
    breaks_order c.args.decls.now _ (c.begins.ensures.0 c.if-not-begins.false) (refuted c.is_in_order.result c.if-not-is_in_order.true (c.is_in_order.ensures k facts))
