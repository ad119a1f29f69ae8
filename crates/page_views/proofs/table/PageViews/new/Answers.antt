-- No slot is a view yet.
use Rattle.std.proofs.Common.{rules, ◌≡◌, length, None, ap, sym, ◌∙◌}
use Rattle.std.proofs.lemmas.List.{length-map, length-replicate}
use Rattle.page_views.specs.Views.{dated, slots_for}
use Rattle.page_views.proofs.Spotting.{none_spotted}
use Rattle.page_views.proofs.table.PageViews.new.Goals as goal

pub invariant_of-result : goal.invariant_of-result
invariant_of-result c =
    let slots = c.in_ok-empty_slots.field-0.items in
    let size : length slots ≡ slots_for c.args.most = sym (length-map slots dated) ∙ ap length c.in_ok-empty_slots.ensures ∙ length-replicate (slots_for c.args.most) None in
    rw (c.none-2.ensures, c.none-3.ensures) (search (rules, none_spotted, size))
