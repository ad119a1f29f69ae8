use Rattle.std.proofs.Common.{Some, sym, ap, subst, filter_map, ◌∙◌}
use Rattle.slot_cache.specs.Cells.{HasExactlyLoaded, IsInOrderOfSlot}
use Rattle.slot_cache.specs.Seats.{held_in}
use Rattle.slot_cache.proofs.IterLemmas.{lists_exactly, lists_in_order}
use Rattle.kind_store.proofs.HeldLemmas.{loaded-taken}
use Rattle.kind_store.proofs.SeatedLemmas.{in_order}
use Rattle.kind_store.specs.Kept.{IsSound}
use Rattle.kind_store.specs.Seated.{Seen}
use Rattle.kind_store.proofs.seats.Seats.iter.Goals as goal

pub returns-clause-loaded : goal.returns-clause-loaded
returns-clause-loaded g c =
    let i = c.self.inside in
    let seats = i.records.slots in
    rw (← c.self.view_is) (c.new.ensures ∙ loaded-taken seats c.written.result.now ∙ ap (filter_map (λ key. held_in seats (Some key))) c.written.ensures ∙ sym (loaded-taken seats i.slots))

pub returns-clause-exact : goal.returns-clause-exact
returns-clause-exact g c =
    let i = c.self.inside in
    let sound = subst (λ (s : Seen g.row.T.Denot). IsSound g.T.Descriptor.called g.T.Descriptor.KIND s.cells s.shelf) c.self.view_is (in_order g.T.Descriptor.called g.T.Descriptor.KIND i.slots i.by_serial i.records i.by_name c.self.invariant) in
    subst (HasExactlyLoaded _) (sym (returns-clause-loaded g c)) (lists_exactly g.T.Descriptor.KIND _ sound.slots.placed)

pub returns-clause-order : goal.returns-clause-order
returns-clause-order g c =
    let i = c.self.inside in
    let sound = subst (λ (s : Seen g.row.T.Denot). IsSound g.T.Descriptor.called g.T.Descriptor.KIND s.cells s.shelf) c.self.view_is (in_order g.T.Descriptor.called g.T.Descriptor.KIND i.slots i.by_serial i.records i.by_name c.self.invariant) in
    subst IsInOrderOfSlot (sym (returns-clause-loaded g c)) (lists_in_order g.T.Descriptor.KIND _ sound.slots.placed)
