-- The view is the filled one, and the others stay.
use Rattle.std.proofs.Common.{◌≡◌, ◌++◌, List, find, set, take, drop, ap, ap₂, ◌∙◌}
use Rattle.page_views.specs.Origins.{viewed, viewed_beside}
use Rattle.page_views.specs.Views.{is_touched_of, present_in, View}
use Rattle.page_views.proofs.Tables.{set_between}
use Rattle.page_views.proofs.table.fill_at.Goals as goal

pub returns : goal.returns
returns c =
    let xs = c.args.views.now in
    let n = c.args.count in
    let parts = c.split_at_mut-views.ensures in
    let o = c.args.origin in
    let v = viewed_beside (take n xs) o c.args.bytes.now in
    let is : c.copy.new.self ≡ v =
    c.copy.ensures
    ∙ ap (λ touched. viewed o c.args.bytes.now (present_in touched c.args.bytes.now))
    (c.touched_of-touched.ensures ∙ ap (λ (vs : List View). find (is_touched_of o.frame) vs) parts.front) in
    ap₂ (λ (front back : List View). front ++ set back 0 c.copy.new.self) parts.front parts.back
    ∙ (ap (λ (w : View). take n xs ++ set (drop n xs) 0 w) is ∙ set_between n xs v c.requires.room)
