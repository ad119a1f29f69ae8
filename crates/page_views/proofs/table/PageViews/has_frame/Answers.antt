use Rattle.std.proofs.Common.{List, Option, Some, is_some, sym, ap, ◌∙◌}
use Rattle.std.specs.List.{find}
use Rattle.page_views.specs.Lines.{frame_number}
use Rattle.page_views.specs.Views.{is_of_frame, Table, View}
use Rattle.page_views.proofs.Indexing.{copied_some, none_noted}
use Rattle.page_views.proofs.table.PageViews.has_frame.Goals as goal

pub returns-in-Some : goal.returns-in-Some
returns-in-Some c =
    c.is_some.ensures ∙ sym (copied_some c.find_of.result)
    ∙ ap (λ (o : Option View). is_some o) (c.find_of.ensures ∙ ap (λ (vs : List View). find (is_of_frame c.args.frame) vs) c.as_slice.ensures.views)

pub returns-in-None : goal.returns-in-None
returns-in-None c =
    let q = c.self.inside in
    let none = none_noted frame_number q.index.frames c.args.frame.0 _ (c.place.ensures ∙ ap (λ o. Some o) c.in-None.is) c.self.invariant.1.frames in
    sym (ap (λ (o : Option View). is_some o) none) ∙ ap (λ (t : Table). is_some (find (is_of_frame c.args.frame) t.views)) c.self.view_is
