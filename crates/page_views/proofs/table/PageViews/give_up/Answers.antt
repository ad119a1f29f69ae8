use Rattle.std.proofs.Common.{rules, List, [], Option, ap, ◌∙◌}
use Rattle.page_views.specs.declared.index.Index.{Index}
use Rattle.page_views.specs.Views.{all_dated, table_of, Dated, Table}
use Rattle.page_views.proofs.Keeping.{all_slots}
use Rattle.page_views.proofs.Spotting.{none_spotted}
use Rattle.page_views.proofs.table.PageViews.give_up.Goals as goal

pub invariant_of-self : goal.invariant_of-self
invariant_of-self c = rw (c.none-self-inside.ensures, c.none-self-inside-2.ensures) (search (rules, none_spotted))

pub returns : goal.returns
returns c =
    let q = c.self.inside in
    ap (λ (i : Index). table_of q.most i.count q.views.items) c.none-self-inside.ensures
    ∙ ap (λ (ks : List (Option Dated)). let t : Table = record { most = q.most; views = []; kept = ks } in t) (all_slots q.most q.index.count q.views.items)
    ∙ ap (λ (t : Table). record t { views = []; kept = all_dated t.views t.kept }) c.self.view_is
