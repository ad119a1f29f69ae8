use Rattle.std.proofs.Common.{◌≡◌, ◌∙◌, ◌∷◌, ◌++◌, [], Some, cond, ap, subst}
use Rattle.std.specs.BTreeMap.{get, is_at}
use Rattle.row_table.specs.declared.pages.PageKey.{PageKey}
use Rattle.row_table.specs.Pages.{page_cmp}
use Rattle.row_table.proofs.StampLemmas.{AreStamped-push, AreStamped-same, insert_entry-last, popped}
use Rattle.row_table.proofs.stamped.StampedRows.add.Goals as goal

pub invariant_of-self-in-Err : goal.invariant_of-self-in-Err
invariant_of-self-in-Err c =
    let entries = c.self.inside.rows.entries in
    let pushed = c.in_ok-insert.ensures.entries ∙ insert_entry-last c.args.stamp c.args.row entries (rw c.self.view_is c.requires.above) in
    let back = popped entries c.pop_last.new.self.entries (c.args.stamp, c.args.row) c.pop_last.result (rw (← pushed) c.pop_last.ensures.variant.1) (rw (← pushed) c.pop_last.ensures.removal) in
    rw back (AreStamped-same entries c.self.inside.stamps c.self.invariant c.insert-2.new.self c.in-Err.ensures.err)

pub returns-in-Err-clause-err : goal.returns-in-Err-clause-err
returns-in-Err-clause-err c =
    let entries = c.self.inside.rows.entries in
    let pushed = c.in_ok-insert.ensures.entries ∙ insert_entry-last c.args.stamp c.args.row entries (rw c.self.view_is c.requires.above) in
    popped entries c.pop_last.new.self.entries (c.args.stamp, c.args.row) c.pop_last.result (rw (← pushed) c.pop_last.ensures.variant.1) (rw (← pushed) c.pop_last.ensures.removal)
    ∙ c.self.view_is

pub invariant_of-self-in_default : goal.invariant_of-self-in_default
invariant_of-self-in_default c =
    let entries = c.self.inside.rows.entries in
    let pushed = c.in_ok-insert.ensures.entries ∙ insert_entry-last c.args.stamp c.args.row entries (rw c.self.view_is c.requires.above) in
    rw pushed
    (AreStamped-push entries c.self.inside.stamps c.self.invariant c.args.row c.args.stamp c.insert-2.new.self (rw c.self.view_is c.requires.page)
    (rw (← pushed) c.in_ok-insert.ensures.ordered) (subst (λ key. (other : PageKey) → get page_cmp c.insert-2.new.self other ≡ cond (is_at (page_cmp key) other) (Some c.args.stamp) (get page_cmp c.self.inside.stamps other)) c.of.ensures c.in_default.ensures.updates.0))

pub returns-clause-ok : goal.returns-clause-ok
returns-clause-ok c =
    c.in_ok-insert.ensures.entries
    ∙ insert_entry-last c.args.stamp c.args.row c.self.inside.rows.entries (rw c.self.view_is c.requires.above)
    ∙ ap (λ es. es ++ (c.args.stamp, c.args.row) ∷ []) c.self.view_is
