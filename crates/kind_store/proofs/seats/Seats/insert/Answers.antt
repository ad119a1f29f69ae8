use Rattle.std.proofs.Common.{false, refl}
use Rattle.std.specs.Ordering.{nat_cmp}
use Rattle.slot_cache.specs.declared.seats.Seat.{Seat}
use Rattle.owner_shelf.proofs.NameLemmas.{entry_absent, names_added}
use Rattle.kind_store.proofs.SeatedLemmas.{in_order, new_name}
use Rattle.kind_store.proofs.SeatEdits.{put-cells, put-rows, put-sound}
use Rattle.kind_store.proofs.seats.Seats.insert.Goals as goal

pub insert-requires-clause-absent : goal.insert-requires-clause-absent
insert-requires-clause-absent g c =
    let i = c.self.inside in
    let absent = new_name g.T.Descriptor.called g.T.Descriptor.KIND i.slots i.by_serial i.records i.by_name c.self.invariant c.args.self.now c.self.view_is c.name-name.result (rw c.name-name.ensures c.requires.unloaded) (rw c.name-name.ensures c.requires.absent) in
    entry_absent nat_cmp i.by_name.entries c.name-name.result c.insert_reserved-key.result absent

pub invariant_of-self : goal.invariant_of-self
invariant_of-self g c =
    let i = c.self.inside in
    let e = c.insert_reserved-key.ensures in
    let name = c.name-name.result in
    let key = c.insert_reserved-key.result in
    let seat : Seat g.row.T.Denot = record { owner = c.args.owner; is_loaded = false; loaded = record { ident = record { kind = c.KIND.result; slot = 0; serial = 0 }; value = c.args.value; locked = false } } in
    let absent = new_name g.T.Descriptor.called g.T.Descriptor.KIND i.slots i.by_serial i.records i.by_name c.self.invariant c.args.self.now c.self.view_is name (rw c.name-name.ensures c.requires.unloaded) (rw c.name-name.ensures c.requires.absent) in
    let index = names_added nat_cmp i.by_name c.insert.new.self name key c.self.invariant.index_is c.insert.ensures.proper absent c.insert.ensures.entries in
    put-sound g.T.Descriptor.called g.T.Descriptor.KIND i.slots i.by_serial i.records i.by_name c.self.invariant c.insert_reserved-key.new.self c.insert.new.self key seat e.was_vacant e.updates refl (rw c.name-name.ensures at c.insert.ensures.entries) e.len e.capacity c.insert.ensures.room index

pub returns-clause-cells : goal.returns-clause-cells
returns-clause-cells g c =
    let i = c.self.inside in
    let e = c.insert_reserved-key.ensures in
    let seat : Seat g.row.T.Denot = record { owner = c.args.owner; is_loaded = false; loaded = record { ident = record { kind = c.KIND.result; slot = 0; serial = 0 }; value = c.args.value; locked = false } } in
    rw (← c.self.view_is) (put-cells g.T.Descriptor.called g.T.Descriptor.KIND i.slots i.by_serial i.records i.by_name c.self.invariant c.insert_reserved-key.new.self c.insert.new.self c.insert_reserved-key.result seat e.was_vacant e.updates refl (rw c.name-name.ensures at c.insert.ensures.entries))

pub returns-clause-rows : goal.returns-clause-rows
returns-clause-rows g c =
    let i = c.self.inside in
    let e = c.insert_reserved-key.ensures in
    let seat : Seat g.row.T.Denot = record { owner = c.args.owner; is_loaded = false; loaded = record { ident = record { kind = c.KIND.result; slot = 0; serial = 0 }; value = c.args.value; locked = false } } in
    rw (← c.self.view_is) (put-rows g.T.Descriptor.called g.T.Descriptor.KIND i.slots i.by_serial i.records i.by_name c.self.invariant c.insert_reserved-key.new.self c.insert.new.self c.insert_reserved-key.result seat e.was_vacant e.updates refl (rw c.name-name.ensures at c.insert.ensures.entries))

pub returns-clause-sound : goal.returns-clause-sound
returns-clause-sound g c = in_order g.T.Descriptor.called g.T.Descriptor.KIND c.self.inside.slots c.self.inside.by_serial c.insert_reserved-key.new.self c.insert.new.self (invariant_of-self g c)
