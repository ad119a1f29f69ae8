-- What was touched is kept as it is now, and nothing is a view.
use Rattle.std.proofs.Common.{rules, ◌≡◌, List, [], ◌++◌, Option, length, map, take, drop, ap, ◌∙◌}
use Rattle.page_views.specs.declared.index.Index.{Index}
use Rattle.page_views.specs.Views.{all_dated, as_happened, table_of, Dated, Table}
use Rattle.page_views.proofs.Keeping.{all_happened}
use Rattle.page_views.proofs.Spotting.{none_spotted}
use Rattle.page_views.proofs.Tables.{length-mapped, written_over}
use Rattle.page_views.proofs.table.PageViews.happened.Goals as goal

pub invariant_of-self : goal.invariant_of-self
invariant_of-self c =
    let q = c.self.inside in
    let after = c.happen_each.new.views in
    let became : after ≡ map (as_happened c.args.place) (take q.index.count q.views.items) ++ drop q.index.count q.views.items = rw c.deref_mut.ensures.value at c.happen_each.ensures in
    let size : length after ≡ length q.views.items = ap length became ∙ length-mapped (as_happened c.args.place) q.index.count q.views.items c.self.invariant.0.within in
    rw (written_over q.views.len q.views.items after q.views.ok.0 size, c.none-self-inside.ensures, c.none-self-inside-2.ensures) (search (rules, none_spotted, size))

pub returns : goal.returns
returns c =
    let q = c.self.inside in
    let n = q.index.count in
    let slots = q.views.items in
    let after = c.happen_each.new.views in
    let became : after ≡ map (as_happened c.args.place) (take n slots) ++ drop n slots = rw c.deref_mut.ensures.value at c.happen_each.ensures in
    let size : length after ≡ length slots = ap length became ∙ length-mapped (as_happened c.args.place) n slots c.self.invariant.0.within in
    ap (λ (i : Index). table_of q.most i.count (take q.views.len (after ++ drop (length after) slots))) c.none-self-inside.ensures
    ∙ ap (table_of q.most 0) (written_over q.views.len slots after q.views.ok.0 size)
    ∙ ap (λ (ks : List (Option Dated)). let t : Table = record { most = q.most; views = []; kept = ks } in t) (all_happened q.most n c.args.place slots after became)
    ∙ ap (λ (t : Table). record t { views = []; kept = all_dated (map (as_happened c.args.place) t.views) t.kept }) c.self.view_is
