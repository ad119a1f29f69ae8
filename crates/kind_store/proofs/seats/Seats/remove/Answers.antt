use Rattle.std.proofs.Common.{refl}
use Rattle.std.specs.Ordering.{nat_cmp}
use Rattle.owner_shelf.proofs.NameLemmas.{found_name, names_taken, no_name}
use Rattle.owner_shelf.proofs.SoundLemmas.{some_is}
use Rattle.kind_store.proofs.SeatedLemmas.{in_order, kept_at, shelved_off, shelved_there}
use Rattle.kind_store.proofs.SeatEdits.{take-cells, take-content, take-rows, take-sound}
use Rattle.kind_store.proofs.seats.Seats.remove.Goals as goal

pub unreachable-requires : goal.unreachable-requires
unreachable-requires g c =
    let i = c.self.inside in
    shelved_there g.T.Descriptor.called g.T.Descriptor.KIND i.slots i.by_serial i.records i.by_name c.self.invariant c.args.name (rw (← c.self.view_is) at c.requires) (no_name i.by_name.entries c.args.name c.in_default.ensures.value)

pub remove-requires : goal.remove-requires
remove-requires g c = found_name c.self.inside.by_name.entries c.args.name c.in-Some.key c.in-Some.ensures.value

pub remove-seat-requires : goal.remove-seat-requires
remove-seat-requires g c =
    let i = c.self.inside in
    let has = kept_at g.T.Descriptor.called g.T.Descriptor.KIND i.slots i.by_serial i.records i.by_name c.self.invariant c.args.name c.in-Some.key (found_name i.by_name.entries c.args.name c.in-Some.key c.in-Some.ensures.value) in
    some_is _ has.0 has.1

pub invariant_of-self : goal.invariant_of-self
invariant_of-self g c =
    let i = c.self.inside in
    let s = c.self.invariant in
    let called = g.T.Descriptor.called in
    let kind = g.T.Descriptor.KIND in
    let key = c.in-Some.key in
    let seat = c.remove-seat.result in
    let e = c.remove-seat.ensures in
    let there = found_name i.by_name.entries c.args.name key c.in-Some.ensures.value in
    let off = shelved_off called kind i.slots i.by_serial i.records i.by_name s c.args.name key seat there e.value (rw (← c.self.view_is) at c.requires) in
    let index = names_taken nat_cmp i.by_name c.remove.new.self c.args.name key s.index_is c.remove.ensures.proper c.remove.ensures.entries in
    take-sound called kind i.slots i.by_serial i.records i.by_name s c.remove-seat.new.self c.remove.new.self c.args.name key seat e.value off there e.updates c.remove.ensures.entries e.len e.capacity c.remove.ensures.room index

pub returns-clause-content : goal.returns-clause-content
returns-clause-content g c =
    let i = c.self.inside in
    let s = c.self.invariant in
    let called = g.T.Descriptor.called in
    let kind = g.T.Descriptor.KIND in
    let key = c.in-Some.key in
    let seat = c.remove-seat.result in
    let e = c.remove-seat.ensures in
    let there = found_name i.by_name.entries c.args.name key c.in-Some.ensures.value in
    let off = shelved_off called kind i.slots i.by_serial i.records i.by_name s c.args.name key seat there e.value (rw (← c.self.view_is) at c.requires) in
    rw (← c.self.view_is) (take-content called kind i.slots i.by_serial i.records i.by_name s c.remove-seat.new.self c.remove.new.self c.args.name key seat e.value off there e.updates c.remove.ensures.entries)

pub returns-clause-cells : goal.returns-clause-cells
returns-clause-cells g c =
    let i = c.self.inside in
    let s = c.self.invariant in
    let called = g.T.Descriptor.called in
    let kind = g.T.Descriptor.KIND in
    let key = c.in-Some.key in
    let seat = c.remove-seat.result in
    let e = c.remove-seat.ensures in
    let there = found_name i.by_name.entries c.args.name key c.in-Some.ensures.value in
    let off = shelved_off called kind i.slots i.by_serial i.records i.by_name s c.args.name key seat there e.value (rw (← c.self.view_is) at c.requires) in
    rw (← c.self.view_is) (take-cells called kind i.slots i.by_serial i.records i.by_name s c.remove-seat.new.self c.remove.new.self c.args.name key seat e.value off there e.updates c.remove.ensures.entries)

pub returns-clause-shelf : goal.returns-clause-shelf
returns-clause-shelf g c =
    let i = c.self.inside in
    let s = c.self.invariant in
    let called = g.T.Descriptor.called in
    let kind = g.T.Descriptor.KIND in
    let key = c.in-Some.key in
    let seat = c.remove-seat.result in
    let e = c.remove-seat.ensures in
    let there = found_name i.by_name.entries c.args.name key c.in-Some.ensures.value in
    let off = shelved_off called kind i.slots i.by_serial i.records i.by_name s c.args.name key seat there e.value (rw (← c.self.view_is) at c.requires) in
    let rows = take-rows called kind i.slots i.by_serial i.records i.by_name s c.remove-seat.new.self c.remove.new.self c.args.name key seat e.value off there e.updates c.remove.ensures.entries in
    rw (← c.self.view_is, c.remove.ensures.room, rows) refl

pub returns-clause-sound : goal.returns-clause-sound
returns-clause-sound g c = in_order g.T.Descriptor.called g.T.Descriptor.KIND c.self.inside.slots c.self.inside.by_serial c.remove-seat.new.self c.remove.new.self (invariant_of-self g c)
