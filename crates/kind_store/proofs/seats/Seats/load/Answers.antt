use Rattle.std.proofs.Common.{◌≡◌, ◌<◌, List, true, false, length, Some, refl, subst, ap, arith}
use Rattle.std.proofs.lemmas.List.{length-map}
use Rattle.slab.specs.Slab.{with_value}
use Rattle.slot_cache.specs.declared.loaded.Loaded.{Loaded}
use Rattle.slot_cache.specs.declared.seats.Seat.{Seat}
use Rattle.slot_cache.specs.Seats.{cells_in, held_in}
use Rattle.slot_cache.proofs.SlotLemmas.{serial_absent}
use Rattle.owner_shelf.specs.declared.shelved.Shelved.{Shelved}
use Rattle.owner_shelf.specs.Rows.{content_under, rows_without}
use Rattle.owner_shelf.proofs.NameLemmas.{found_name, no_name}
use Rattle.owner_shelf.proofs.SoundLemmas.{some_is}
use Rattle.kind_store.specs.Seated.{rows_in}
use Rattle.kind_store.proofs.SeatedLemmas.{in_order, seat_named, shelved_off, shelved_there, slot_free}
use Rattle.kind_store.proofs.SeatEdits.{load-cells, load-content, load-rows, load-sound}
use Rattle.kind_store.proofs.SerialLemmas.{serials-put, serials-room_put}
use Rattle.kind_store.proofs.seats.Seats.load.Goals as goal

pub unreachable-requires : goal.unreachable-requires
unreachable-requires g c =
    let i = c.self.inside in
    shelved_there g.T.Descriptor.called g.T.Descriptor.KIND i.slots i.by_serial i.records i.by_name c.self.invariant c.args.name (rw (← c.self.view_is) at c.requires.shelved) (no_name i.by_name.entries c.args.name c.in_default.ensures.value)

pub index_mut-seat-requires : goal.index_mut-seat-requires
index_mut-seat-requires g c =
    let i = c.self.inside in
    let there = found_name i.by_name.entries c.args.name c.in-Some.key c.in-Some.ensures.value in
    let has = c.self.invariant.kept there.0 (c.args.name, c.in-Some.key) there.1 in
    let at = rw there.2 at has.1 in
    some_is _ has.0 at

pub put-requires-clause-free : goal.put-requires-clause-free
put-requires-clause-free g c =
    let i = c.self.inside in
    slot_free g.T.Descriptor.called g.T.Descriptor.KIND i.slots i.by_serial i.records i.by_name c.self.invariant c.args.ident.slot (rw (← c.self.view_is) at c.requires.free)

-- nothing has the serial
pub relist-requires-clause-absent : goal.relist-requires-clause-absent
relist-requires-clause-absent g c = λ _.
    let i = c.self.inside in
    let none = rw (← c.self.view_is) at c.requires.serial in
    serial_absent (cells_in i.records.slots i.slots) c.args.ident.slot c.args.ident.serial i.by_serial.entries c.self.invariant.serials.lists none

pub relist-requires-clause-room : goal.relist-requires-clause-room
relist-requires-clause-room g c = λ _ _.
    let i = c.self.inside in
    let x : Loaded g.row.T.Denot = record { ident = c.args.ident; value = c.index_mut-seat.result.now.loaded.value; locked = false } in
    serials-room_put (cells_in i.records.slots i.slots) i.by_serial c.self.invariant.serials c.args.ident.slot x (rw (← c.self.view_is) at c.requires.below) (rw (← c.self.view_is) at c.requires.free) refl

-- the seat is marked, and the slot has its key
pub invariant_of-self : goal.invariant_of-self
invariant_of-self g c =
    let i = c.self.inside in
    let s = c.self.invariant in
    let called = g.T.Descriptor.called in
    let kind = g.T.Descriptor.KIND in
    let key = c.in-Some.key in
    let seat = c.index_mut-seat.result.now in
    let at = c.index_mut-seat.ensures.value in
    let there = found_name i.by_name.entries c.args.name key c.in-Some.ensures.value in
    let now : Seat g.row.T.Denot = record { owner = seat.owner; is_loaded = true; loaded = record { ident = c.args.ident; value = seat.loaded.value; locked = false } } in
    let off = shelved_off called kind i.slots i.by_serial i.records i.by_name s c.args.name key seat there at (rw (← c.self.view_is) at c.requires.shelved) in
    let below = rw (← c.self.view_is) at c.requires.below in
    let none = rw (← c.self.view_is) at c.requires.free in
    let fresh = rw (← c.self.view_is) at c.requires.serial in
    let free = slot_free called kind i.slots i.by_serial i.records i.by_name s c.args.ident.slot none in
    let within : c.args.ident.slot < length i.slots = omega (arith, below, length-map i.slots (held_in i.records.slots)) in
    let e = c.relist.ensures in
    let listed = serials-put (cells_in i.records.slots i.slots) i.by_serial c.relist.new.by_serial s.serials c.args.ident.slot e.rising e.room now.loaded below none refl fresh e.relisted (omega (arith, e.len)) in
    rw c.put.ensures (load-sound called kind i.slots i.by_serial i.records i.by_name s key seat now at refl c.args.ident.slot within free off refl refl c.requires.kind refl c.relist.new.by_serial listed)

pub returns-clause-loaded : goal.returns-clause-loaded
returns-clause-loaded g c =
    let i = c.self.inside in
    let s = c.self.invariant in
    let called = g.T.Descriptor.called in
    let kind = g.T.Descriptor.KIND in
    let key = c.in-Some.key in
    let seat = c.index_mut-seat.result.now in
    let at = c.index_mut-seat.ensures.value in
    let there = found_name i.by_name.entries c.args.name key c.in-Some.ensures.value in
    let now : Seat g.row.T.Denot = record { owner = seat.owner; is_loaded = true; loaded = record { ident = c.args.ident; value = seat.loaded.value; locked = false } } in
    let off = shelved_off called kind i.slots i.by_serial i.records i.by_name s c.args.name key seat there at (rw (← c.self.view_is) at c.requires.shelved) in
    let named = seat_named called kind i.slots i.by_serial i.records i.by_name s c.args.name key seat there at in
    let none = rw (← c.self.view_is) at c.requires.free in
    let free = slot_free called kind i.slots i.by_serial i.records i.by_name s c.args.ident.slot none in
    let below = rw (← c.self.view_is) at c.requires.below in
    let within : c.args.ident.slot < length i.slots = omega (arith, below, length-map i.slots (held_in i.records.slots)) in
    let content = load-content called kind i.slots i.by_serial i.records i.by_name s key seat now at refl c.args.ident.slot within free off refl refl c.requires.kind refl in
    let rows = load-rows called kind i.slots i.by_serial i.records i.by_name s key seat now at refl c.args.ident.slot within free off refl refl c.requires.kind refl in
    rw (← c.self.view_is, c.put.ensures) (record {
      value = seat.loaded.value;
      was = subst (λ n. content_under called (rows_in i.records.slots i.by_name.entries) n ≡ Some seat.loaded.value) named content;
      cells = load-cells called kind i.slots i.by_serial i.records i.by_name s key seat now at refl c.args.ident.slot within free off refl refl c.requires.kind refl;
      shelf = subst (λ n. record { room = i.by_name.room; rows = rows_in (with_value i.records key now).slots i.by_name.entries } ≡ record { room = i.by_name.room; rows = rows_without called (rows_in i.records.slots i.by_name.entries) n }) named (ap (λ (rs : List (Shelved g.row.T.Denot)). record { room = i.by_name.room; rows = rs }) rows);
    })

pub returns-clause-sound : goal.returns-clause-sound
returns-clause-sound g c = in_order g.T.Descriptor.called g.T.Descriptor.KIND c.put.new.self c.relist.new.by_serial _ c.self.inside.by_name (invariant_of-self g c)
