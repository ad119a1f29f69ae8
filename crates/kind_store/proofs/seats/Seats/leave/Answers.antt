use Rattle.std.proofs.Common.{◌≡◌, true, false, set, All, None, refl, sym, subst, ap, ◌∙◌, arith}
use Rattle.std.specs.declared.cmp.Ordering.TheVariants.{Equal}
use Rattle.std.specs.Ordering.{nat_cmp}
use Rattle.cache_ident.specs.declared.idents.Ident.{Ident}
use Rattle.slab.specs.Slab.{with_value}
use Rattle.slot_cache.specs.declared.loaded.Loaded.{Loaded}
use Rattle.slot_cache.specs.declared.seats.Seat.{Seat}
use Rattle.slot_cache.specs.Index.{IsRelisted}
use Rattle.slot_cache.specs.Seats.{cells_in}
use Rattle.slot_cache.proofs.SlotLemmas.{locked_absent}
use Rattle.owner_shelf.proofs.SoundLemmas.{some_is}
use Rattle.kind_store.specs.Seated.{IsSeated}
use Rattle.kind_store.proofs.SeatedLemmas.{held_at, in_order, seat_on, seat_there, shown_at}
use Rattle.kind_store.proofs.SeatEdits.{leave-cells, leave-rows, leave-sound}
use Rattle.kind_store.proofs.SerialLemmas.{serials-take}
use Rattle.kind_store.proofs.seats.Seats.leave.Goals as goal

pub unreachable-requires : goal.unreachable-requires
unreachable-requires g c =
    let i = c.self.inside in
    let held = rw (← c.self.view_is) at c.requires in
    let h = held_at g.T.Descriptor.called g.T.Descriptor.KIND i.slots i.by_serial i.records i.by_name c.self.invariant c.args.ident.slot held.0 held.1 in
    let holds = h.holds in
    let none = c.in_default.ensures in
    cc

pub index_mut-seat-requires : goal.index_mut-seat-requires
index_mut-seat-requires g c =
    let s = c.self.invariant.seated c.args.ident.slot c.in-Some.key (sym c.in-Some.ensures) in
    some_is _ s.seat s.at

pub take-requires : goal.take-requires
take-requires g c = some_is _ c.in-Some.key (sym c.in-Some.ensures)

pub relist-requires-clause-there : goal.relist-requires-clause-there
relist-requires-clause-there g c = λ clear.
    let i = c.self.inside in
    let s = c.self.invariant in
    let seat = c.index_mut-seat.result.now in
    let held = rw (← c.self.view_is) at c.requires in
    let shown = shown_at g.T.Descriptor.called g.T.Descriptor.KIND i.slots i.by_serial i.records i.by_name s c.args.ident.slot c.in-Some.key seat (sym c.in-Some.ensures) c.index_mut-seat.ensures.value in
    let is = seat_there g.T.Descriptor.called g.T.Descriptor.KIND i.slots i.by_serial i.records i.by_name s c.args.ident.slot c.in-Some.key seat held.0 (sym c.in-Some.ensures) c.index_mut-seat.ensures.value held.1 in
    let serial : seat.loaded.ident.serial ≡ c.args.ident.serial = ap (λ (x : Loaded g.row.T.Denot). x.ident.serial) (sym is) ∙ ap (λ (j : Ident). j.serial) held.2 in
    s.serials.lists.complete (c.args.ident.serial, c.args.ident.slot) (seat.loaded, shown, serial, clear)

pub relist-requires-clause-absent : goal.relist-requires-clause-absent
relist-requires-clause-absent g c = λ locked.
    let i = c.self.inside in
    let s = c.self.invariant in
    let seat = c.index_mut-seat.result.now in
    let held = rw (← c.self.view_is) at c.requires in
    let shown = shown_at g.T.Descriptor.called g.T.Descriptor.KIND i.slots i.by_serial i.records i.by_name s c.args.ident.slot c.in-Some.key seat (sym c.in-Some.ensures) c.index_mut-seat.ensures.value in
    let is = seat_there g.T.Descriptor.called g.T.Descriptor.KIND i.slots i.by_serial i.records i.by_name s c.args.ident.slot c.in-Some.key seat held.0 (sym c.in-Some.ensures) c.index_mut-seat.ensures.value held.1 in
    let serial : seat.loaded.ident.serial ≡ c.args.ident.serial = ap (λ (x : Loaded g.row.T.Denot). x.ident.serial) (sym is) ∙ ap (λ (j : Ident). j.serial) held.2 in
    subst (λ k. All (λ place. nat_cmp place.0 k ≡ Equal → ⊥) i.by_serial.entries) serial (locked_absent (cells_in i.records.slots i.slots) c.args.ident.slot seat.loaded i.by_serial.entries shown s.serials.once s.serials.lists locked)

-- the slot is free, and the seat a row of the shelf
pub invariant_of-self : goal.invariant_of-self
invariant_of-self g c =
    let i = c.self.inside in
    let s = c.self.invariant in
    let called = g.T.Descriptor.called in
    let kind = g.T.Descriptor.KIND in
    let key = c.in-Some.key in
    let seat = c.index_mut-seat.result.now in
    let at = c.index_mut-seat.ensures.value in
    let held = rw (← c.self.view_is) at c.requires in
    let is = seat_there called kind i.slots i.by_serial i.records i.by_name s c.args.ident.slot key seat held.0 (sym c.in-Some.ensures) at held.1 in
    let own : seat.loaded.ident ≡ c.args.ident = ap (λ (x : Loaded g.row.T.Denot). x.ident) (sym is) ∙ held.2 in
    let slot = ap (λ (j : Ident). j.slot) own in
    let on = (seat_on called kind i.slots i.by_serial i.records i.by_name s c.args.ident.slot key seat (sym c.in-Some.ensures) at).0 in
    let now : Seat g.row.T.Denot = record { owner = c.args.owner; is_loaded = false; loaded = seat.loaded } in
    let shown = shown_at called kind i.slots i.by_serial i.records i.by_name s seat.loaded.ident.slot key seat (s.slotted key seat at on) at in
    let e = c.relist.ensures in
    let relisted = subst (λ (j : Ident). IsRelisted i.by_serial.entries c.relist.new.by_serial.entries (j.serial, j.slot) true) (sym own) e.relisted in
    let listed = serials-take (cells_in i.records.slots i.slots) i.by_serial c.relist.new.by_serial s.serials seat.loaded.ident.slot e.rising e.room seat.loaded shown relisted (omega (arith, e.len)) in
    rw c.take.ensures (subst (λ k. IsSeated called kind (set i.slots k None) c.relist.new.by_serial (with_value i.records key now) i.by_name) slot (leave-sound called kind i.slots i.by_serial i.records i.by_name s key seat now at refl on refl c.relist.new.by_serial listed))

pub returns-clause-left : goal.returns-clause-left
returns-clause-left g c =
    let i = c.self.inside in
    let s = c.self.invariant in
    let called = g.T.Descriptor.called in
    let kind = g.T.Descriptor.KIND in
    let key = c.in-Some.key in
    let seat = c.index_mut-seat.result.now in
    let at = c.index_mut-seat.ensures.value in
    let held = rw (← c.self.view_is) at c.requires in
    let is = seat_there called kind i.slots i.by_serial i.records i.by_name s c.args.ident.slot key seat held.0 (sym c.in-Some.ensures) at held.1 in
    let own : seat.loaded.ident ≡ c.args.ident = ap (λ (x : Loaded g.row.T.Denot). x.ident) (sym is) ∙ held.2 in
    let slot = ap (λ (j : Ident). j.slot) own in
    let on = (seat_on called kind i.slots i.by_serial i.records i.by_name s c.args.ident.slot key seat (sym c.in-Some.ensures) at).0 in
    let now : Seat g.row.T.Denot = record { owner = c.args.owner; is_loaded = false; loaded = seat.loaded } in
    let shown = shown_at called kind i.slots i.by_serial i.records i.by_name s c.args.ident.slot key seat (sym c.in-Some.ensures) at in
    let cells = leave-cells called kind i.slots i.by_serial i.records i.by_name s key seat now at refl on refl in
    rw (← c.self.view_is, c.take.ensures) (record {
      value = seat.loaded.value;
      was = (seat.loaded, shown, own, refl);
      cells = subst (λ k. cells_in (with_value i.records key now).slots (set i.slots k None) ≡ set (cells_in i.records.slots i.slots) k None) slot cells;
      room = refl;
      rows = leave-rows called kind i.slots i.by_serial i.records i.by_name s key seat now at refl on refl;
    })

pub returns-clause-sound : goal.returns-clause-sound
returns-clause-sound g c = in_order g.T.Descriptor.called g.T.Descriptor.KIND c.take.new.self c.relist.new.by_serial _ c.self.inside.by_name (invariant_of-self g c)
