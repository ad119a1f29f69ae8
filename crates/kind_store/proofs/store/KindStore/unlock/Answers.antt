use Rattle.std.proofs.Common.{false, refl}
use Rattle.slot_cache.specs.Cells.{with_lock}
use Rattle.kind_store.proofs.EditLemmas.{edit-enrolled, edit-keeps, edit-order, edit-sound, edit-view}
use Rattle.kind_store.proofs.store.KindStore.unlock.Goals as goal

pub set_lock-requires : goal.set_lock-requires
set_lock-requires g c = rw (← c.self.view_is) at c.requires

pub invariant_of-self : goal.invariant_of-self
invariant_of-self g c =
    let i = c.self.inside in
    let held = rw (← c.self.view_is) at c.requires in
    rw (c.set_lock.ensures.cells, c.set_lock.ensures.shelf) (edit-sound g.T.Descriptor.called g.T.Descriptor.KIND i.seats.cells i.seats.shelf c.self.invariant c.args.ident held.0 held.1 held.2 (with_lock false) refl refl)

pub returns-clause-contents : goal.returns-clause-contents
returns-clause-contents g c =
    let i = c.self.inside in
    let held = rw (← c.self.view_is) at c.requires in
    let view = edit-view g.T.Descriptor.called g.T.Descriptor.KIND i.seats.cells i.seats.shelf c.self.invariant c.args.ident held.0 held.1 held.2 (with_lock false) refl in
    rw (← c.self.view_is, c.set_lock.ensures.cells, c.set_lock.ensures.shelf, view) (edit-keeps g.T.Descriptor.called g.T.Descriptor.KIND i.seats.cells i.seats.shelf c.self.invariant c.args.ident held.0 held.1 held.2 (with_lock false) refl refl refl)

pub returns-clause-order : goal.returns-clause-order
returns-clause-order g c =
    let i = c.self.inside in
    let held = rw (← c.self.view_is) at c.requires in
    rw (← c.self.view_is, c.set_lock.ensures.cells) (edit-order g.T.Descriptor.called g.T.Descriptor.KIND i.seats.cells i.seats.shelf c.self.invariant c.args.ident held.0 held.1 held.2 (with_lock false) refl)

pub returns-clause-enrolled : goal.returns-clause-enrolled
returns-clause-enrolled g c =
    let i = c.self.inside in
    let held = rw (← c.self.view_is) at c.requires in
    rw (← c.self.view_is, c.set_lock.ensures.cells) (edit-enrolled g.T.Descriptor.called g.T.Descriptor.KIND i.seats.cells i.seats.shelf c.self.invariant c.args.ident held.0 held.1 held.2 (with_lock false) refl)
