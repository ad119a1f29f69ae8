use Rattle.std.proofs.Common.{refl, sym}
use Rattle.slot_cache.specs.Cells.{with_value}
use Rattle.kind_store.proofs.EditLemmas.{edit-contents, edit-enrolled, edit-order, edit-sound, edit-view}
use Rattle.kind_store.proofs.store.KindStore.change.Goals as goal

pub replace-requires-clause-loaded : goal.replace-requires-clause-loaded
replace-requires-clause-loaded g c = rw (← c.self.view_is) at c.requires.loaded

pub invariant_of-self : goal.invariant_of-self
invariant_of-self g c =
    let i = c.self.inside in
    let held = rw (← c.self.view_is) at c.requires.loaded in
    let name = rw (← c.self.view_is) at c.requires.name in
    rw (c.replace.ensures.cells, c.replace.ensures.shelf) (edit-sound g.T.Descriptor.called g.T.Descriptor.KIND i.seats.cells i.seats.shelf c.self.invariant c.args.ident held.0 held.1 held.2 (with_value c.args.value) refl (sym (name held.0 held.1)))

pub returns-clause-content : goal.returns-clause-content
returns-clause-content g c = rw (← c.self.view_is) c.replace.ensures.content

pub returns-clause-contents : goal.returns-clause-contents
returns-clause-contents g c =
    let i = c.self.inside in
    let held = rw (← c.self.view_is) at c.requires.loaded in
    let name = rw (← c.self.view_is) at c.requires.name in
    let view = edit-view g.T.Descriptor.called g.T.Descriptor.KIND i.seats.cells i.seats.shelf c.self.invariant c.args.ident held.0 held.1 held.2 (with_value c.args.value) refl in
    rw (← c.self.view_is, c.replace.ensures.cells, c.replace.ensures.shelf, view) (edit-contents g.T.Descriptor.called g.T.Descriptor.KIND i.seats.cells i.seats.shelf c.self.invariant c.args.ident held.0 held.1 held.2 (with_value c.args.value) refl (sym (name held.0 held.1)))

pub returns-clause-order : goal.returns-clause-order
returns-clause-order g c =
    let i = c.self.inside in
    let held = rw (← c.self.view_is) at c.requires.loaded in
    rw (← c.self.view_is, c.replace.ensures.cells) (edit-order g.T.Descriptor.called g.T.Descriptor.KIND i.seats.cells i.seats.shelf c.self.invariant c.args.ident held.0 held.1 held.2 (with_value c.args.value) refl)

pub returns-clause-enrolled : goal.returns-clause-enrolled
returns-clause-enrolled g c =
    let i = c.self.inside in
    let held = rw (← c.self.view_is) at c.requires.loaded in
    rw (← c.self.view_is, c.replace.ensures.cells) (edit-enrolled g.T.Descriptor.called g.T.Descriptor.KIND i.seats.cells i.seats.shelf c.self.invariant c.args.ident held.0 held.1 held.2 (with_value c.args.value) refl)
