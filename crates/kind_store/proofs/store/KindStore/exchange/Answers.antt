use Rattle.std.proofs.Common.{◌≡◌, Some, ap, subst, sym, ◌∙◌, arith}
use Rattle.std.specs.Option.{option_map}
use Rattle.cache_ident.specs.declared.names.Name.{Name}
use Rattle.owner_shelf.specs.declared.shelved.Shelved.{Shelved}
use Rattle.owner_shelf.specs.Rows.{content_under, row_under, rows_without, OnShelf}
use Rattle.owner_shelf.proofs.RowLaws.{absent-without}
use Rattle.kind_store.proofs.MoveLemmas.{exchange-contents, exchange-moved}
use Rattle.kind_store.proofs.SoundLemmas.{count-retracting, unloaded}
use Rattle.kind_store.proofs.store.KindStore.exchange.Goals as goal

pub insert-requires-clause-room : goal.insert-requires-clause-room
insert-requires-clause-room g c =
    let i = c.self.inside in
    let e = c.remove-old.ensures in
    let counted = count-retracting g.T.Descriptor.called g.T.Descriptor.KIND i.seats.cells i.seats.shelf c.self.invariant c.name-name.result c.remove-old.result e.content in
    rw (e.cells, e.shelf) (omega (arith, counted, c.self.invariant.roomy))

pub insert-requires-clause-unloaded : goal.insert-requires-clause-unloaded
insert-requires-clause-unloaded g c =
    let i = c.self.inside in
    let e = c.remove-old.ensures in
    let there = subst (λ (n : Name). content_under g.T.Descriptor.called i.seats.shelf.rows n ≡ Some c.remove-old.result) c.name-name.ensures e.content in
    rw e.cells (unloaded g.T.Descriptor.called g.T.Descriptor.KIND i.seats.cells i.seats.shelf c.self.invariant (g.T.Descriptor.called c.args.value) c.remove-old.result there)

pub insert-requires-clause-absent : goal.insert-requires-clause-absent
insert-requires-clause-absent g c =
    let i = c.self.inside in
    rw (c.remove-old.ensures.shelf, c.name-name.ensures) (absent-without g.T.Descriptor.called i.seats.shelf.rows (g.T.Descriptor.called c.args.value))

pub returns-clause-moved : goal.returns-clause-moved
returns-clause-moved g c =
    let i = c.self.inside in
    let called = g.T.Descriptor.called in
    let e = c.remove-old.ensures in
    let named = c.name-name.ensures in
    let there = subst (λ (n : Name). content_under called i.seats.shelf.rows n ≡ Some c.remove-old.result) named e.content in
    let owned = subst (λ (n : Name). option_map (λ (r : Shelved g.row.T.Denot). r.owner) (row_under called i.seats.shelf.rows n) ≡ Some c.in-Some.owner) named (rw (← c.self.view_is) at (sym c.in-Some.ensures)) in
    let after = subst (λ (n : Name). c.remove-old.new.self.shelf ≡ record i.seats.shelf { rows = rows_without called i.seats.shelf.rows n }) named e.shelf in
    let room = c.insert.ensures.room ∙ ap (λ (s : OnShelf g.row.T.Denot). s.room) after in
    let added = rw after at c.insert.ensures.rows in
    rw (← c.self.view_is, c.insert.ensures.cells ∙ e.cells) (exchange-moved called g.T.Descriptor.KIND i.seats.cells i.seats.shelf c.self.invariant c.args.value c.remove-old.result c.in-Some.owner owned there c.insert.new.self.shelf room added)

pub returns-clause-contents : goal.returns-clause-contents
returns-clause-contents g c =
    let i = c.self.inside in
    let called = g.T.Descriptor.called in
    let e = c.remove-old.ensures in
    let named = c.name-name.ensures in
    let there = subst (λ (n : Name). content_under called i.seats.shelf.rows n ≡ Some c.remove-old.result) named e.content in
    let owned = subst (λ (n : Name). option_map (λ (r : Shelved g.row.T.Denot). r.owner) (row_under called i.seats.shelf.rows n) ≡ Some c.in-Some.owner) named (rw (← c.self.view_is) at (sym c.in-Some.ensures)) in
    let after = subst (λ (n : Name). c.remove-old.new.self.shelf ≡ record i.seats.shelf { rows = rows_without called i.seats.shelf.rows n }) named e.shelf in
    let room = c.insert.ensures.room ∙ ap (λ (s : OnShelf g.row.T.Denot). s.room) after in
    let added = rw after at c.insert.ensures.rows in
    rw (← c.self.view_is, c.insert.ensures.cells ∙ e.cells) (exchange-contents called g.T.Descriptor.KIND i.seats.cells i.seats.shelf c.self.invariant c.args.value c.remove-old.result c.in-Some.owner owned there c.insert.new.self.shelf room added)
