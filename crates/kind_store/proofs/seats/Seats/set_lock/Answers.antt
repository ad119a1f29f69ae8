use Rattle.std.proofs.Common.{◌≡◌, List, set, All, Some, refl, sym, subst, ap, ◌∙◌}
use Rattle.std.specs.declared.cmp.Ordering.TheVariants.{Equal}
use Rattle.std.specs.Option.{option_map}
use Rattle.std.specs.Ordering.{nat_cmp}
use Rattle.cache_ident.specs.declared.idents.Ident.{Ident}
use Rattle.slot_cache.specs.declared.loaded.Loaded.{Loaded}
use Rattle.slot_cache.specs.declared.seats.Seat.{Seat}
use Rattle.slot_cache.specs.Cells.{with_lock}
use Rattle.slot_cache.specs.Index.{IsRelisted}
use Rattle.slot_cache.specs.Seats.{cells_in}
use Rattle.slot_cache.proofs.SlotLemmas.{locked_absent}
use Rattle.owner_shelf.specs.declared.shelved.Shelved.{Shelved}
use Rattle.owner_shelf.proofs.SoundLemmas.{some_is}
use Rattle.kind_store.proofs.SeatedLemmas.{held_at, seat_on, seat_there, shown_at}
use Rattle.kind_store.proofs.SeatEdits.{changed-cells, changed-rows, changed-sound}
use Rattle.kind_store.proofs.SerialLemmas.{serials-lock, serials-room_lock}
use Rattle.kind_store.proofs.seats.Seats.set_lock.Goals as goal

pub unreachable-requires : goal.unreachable-requires
unreachable-requires g c =
    let i = c.self.inside in
    let held = rw (← c.self.view_is) at c.requires in
    let h = held_at g.T.Descriptor.called g.T.Descriptor.KIND i.slots i.by_serial i.records i.by_name c.self.invariant c.args.ident.slot held.0 held.1 in
    let holds = h.holds in
    let none = c.in_default.ensures in
    cc

pub index_mut-seat-requires : goal.index_mut-seat-requires
index_mut-seat-requires g c =
    let s = c.self.invariant.seated c.args.ident.slot c.in-Some.key (sym c.in-Some.ensures) in
    some_is _ s.seat s.at

pub relist-requires-clause-there : goal.relist-requires-clause-there
relist-requires-clause-there g c = λ clear.
    let i = c.self.inside in
    let s = c.self.invariant in
    let seat = c.index_mut-seat.result.now in
    let held = rw (← c.self.view_is) at c.requires in
    let shown = shown_at g.T.Descriptor.called g.T.Descriptor.KIND i.slots i.by_serial i.records i.by_name s c.args.ident.slot c.in-Some.key seat (sym c.in-Some.ensures) c.index_mut-seat.ensures.value in
    let is = seat_there g.T.Descriptor.called g.T.Descriptor.KIND i.slots i.by_serial i.records i.by_name s c.args.ident.slot c.in-Some.key seat held.0 (sym c.in-Some.ensures) c.index_mut-seat.ensures.value held.1 in
    let serial : seat.loaded.ident.serial ≡ c.args.ident.serial = ap (λ (x : Loaded g.row.T.Denot). x.ident.serial) (sym is) ∙ ap (λ (j : Ident). j.serial) held.2 in
    s.serials.lists.complete (c.args.ident.serial, c.args.ident.slot) (seat.loaded, shown, serial, sym c.replace-was.ensures.value ∙ clear)

pub relist-requires-clause-absent : goal.relist-requires-clause-absent
relist-requires-clause-absent g c = λ locked.
    let i = c.self.inside in
    let s = c.self.invariant in
    let seat = c.index_mut-seat.result.now in
    let held = rw (← c.self.view_is) at c.requires in
    let shown = shown_at g.T.Descriptor.called g.T.Descriptor.KIND i.slots i.by_serial i.records i.by_name s c.args.ident.slot c.in-Some.key seat (sym c.in-Some.ensures) c.index_mut-seat.ensures.value in
    let is = seat_there g.T.Descriptor.called g.T.Descriptor.KIND i.slots i.by_serial i.records i.by_name s c.args.ident.slot c.in-Some.key seat held.0 (sym c.in-Some.ensures) c.index_mut-seat.ensures.value held.1 in
    let serial : seat.loaded.ident.serial ≡ c.args.ident.serial = ap (λ (x : Loaded g.row.T.Denot). x.ident.serial) (sym is) ∙ ap (λ (j : Ident). j.serial) held.2 in
    subst (λ k. All (λ place. nat_cmp place.0 k ≡ Equal → ⊥) i.by_serial.entries) serial (locked_absent (cells_in i.records.slots i.slots) c.args.ident.slot seat.loaded i.by_serial.entries shown s.serials.once s.serials.lists (sym c.replace-was.ensures.value ∙ locked))

pub relist-requires-clause-room : goal.relist-requires-clause-room
relist-requires-clause-room g c = λ locked clear.
    let i = c.self.inside in
    let s = c.self.invariant in
    let seat = c.index_mut-seat.result.now in
    let shown = shown_at g.T.Descriptor.called g.T.Descriptor.KIND i.slots i.by_serial i.records i.by_name s c.args.ident.slot c.in-Some.key seat (sym c.in-Some.ensures) c.index_mut-seat.ensures.value in
    serials-room_lock (cells_in i.records.slots i.slots) i.by_serial s.serials c.args.ident.slot seat.loaded shown (sym c.replace-was.ensures.value ∙ locked)

-- the list has the slot by its new lock
pub invariant_of-self : goal.invariant_of-self
invariant_of-self g c =
    let i = c.self.inside in
    let s = c.self.invariant in
    let called = g.T.Descriptor.called in
    let kind = g.T.Descriptor.KIND in
    let key = c.in-Some.key in
    let seat = c.index_mut-seat.result.now in
    let at = c.index_mut-seat.ensures.value in
    let held = rw (← c.self.view_is) at c.requires in
    let is = seat_there called kind i.slots i.by_serial i.records i.by_name s c.args.ident.slot key seat held.0 (sym c.in-Some.ensures) at held.1 in
    let own : seat.loaded.ident ≡ c.args.ident = ap (λ (x : Loaded g.row.T.Denot). x.ident) (sym is) ∙ held.2 in
    let on = (seat_on called kind i.slots i.by_serial i.records i.by_name s c.args.ident.slot key seat (sym c.in-Some.ensures) at).0 in
    let now : Seat g.row.T.Denot = record { owner = seat.owner; is_loaded = seat.is_loaded; loaded = with_lock c.args.on seat.loaded } in
    let shown = shown_at called kind i.slots i.by_serial i.records i.by_name s seat.loaded.ident.slot key seat (s.slotted key seat at on) at in
    let e = c.relist.ensures in
    let relisted = subst (λ (j : Ident). IsRelisted i.by_serial.entries c.relist.new.by_serial.entries (j.serial, j.slot) c.args.on) (sym own) e.relisted in
    let listed = serials-lock (cells_in i.records.slots i.slots) i.by_serial c.relist.new.by_serial s.serials seat.loaded.ident.slot e.rising e.room seat.loaded shown now.loaded refl relisted (rw c.replace-was.ensures.value at e.len) in
    rw c.replace-was.ensures.after (changed-sound called kind i.slots i.by_serial i.records i.by_name s key seat now at refl on on refl c.relist.new.by_serial listed)

pub returns-clause-cells : goal.returns-clause-cells
returns-clause-cells g c =
    let i = c.self.inside in
    let s = c.self.invariant in
    let called = g.T.Descriptor.called in
    let kind = g.T.Descriptor.KIND in
    let key = c.in-Some.key in
    let seat = c.index_mut-seat.result.now in
    let at = c.index_mut-seat.ensures.value in
    let own = seat_on called kind i.slots i.by_serial i.records i.by_name s c.args.ident.slot key seat (sym c.in-Some.ensures) at in
    let now : Seat g.row.T.Denot = record { owner = seat.owner; is_loaded = seat.is_loaded; loaded = with_lock c.args.on seat.loaded } in
    let cells = changed-cells called kind i.slots i.by_serial i.records i.by_name s key seat now at refl own.0 in
    let shown = shown_at called kind i.slots i.by_serial i.records i.by_name s c.args.ident.slot key seat (sym c.in-Some.ensures) at in
    let all = cells_in i.records.slots i.slots in
    rw (← c.self.view_is, c.replace-was.ensures.after) (cells ∙ ap (λ k. set all k (Some now.loaded)) own.1 ∙ ap (λ o. set all c.args.ident.slot (option_map (with_lock c.args.on) o)) (sym shown))

pub returns-clause-shelf : goal.returns-clause-shelf
returns-clause-shelf g c =
    let i = c.self.inside in
    let s = c.self.invariant in
    let called = g.T.Descriptor.called in
    let kind = g.T.Descriptor.KIND in
    let key = c.in-Some.key in
    let seat = c.index_mut-seat.result.now in
    let at = c.index_mut-seat.ensures.value in
    let on = (seat_on called kind i.slots i.by_serial i.records i.by_name s c.args.ident.slot key seat (sym c.in-Some.ensures) at).0 in
    let now : Seat g.row.T.Denot = record { owner = seat.owner; is_loaded = seat.is_loaded; loaded = with_lock c.args.on seat.loaded } in
    rw (← c.self.view_is, c.replace-was.ensures.after) (ap (λ (rs : List (Shelved g.row.T.Denot)). record { room = i.by_name.room; rows = rs }) (changed-rows called kind i.slots i.by_serial i.records i.by_name s key seat now at refl on on refl))
