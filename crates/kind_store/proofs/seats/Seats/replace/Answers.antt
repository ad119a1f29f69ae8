use Rattle.std.proofs.Common.{List, set, Some, refl, sym, ap, ◌∙◌}
use Rattle.std.specs.Option.{option_map}
use Rattle.slot_cache.specs.declared.loaded.Loaded.{Loaded}
use Rattle.slot_cache.specs.declared.seats.Seat.{Seat}
use Rattle.slot_cache.specs.Cells.{with_value}
use Rattle.slot_cache.specs.Seats.{cells_in}
use Rattle.owner_shelf.specs.declared.shelved.Shelved.{Shelved}
use Rattle.owner_shelf.proofs.SoundLemmas.{some_is}
use Rattle.kind_store.proofs.SeatedLemmas.{held_at, seat_on, seat_there, shown_at}
use Rattle.kind_store.proofs.SeatEdits.{changed-cells, changed-rows, changed-sound}
use Rattle.kind_store.proofs.SerialLemmas.{serials-same}
use Rattle.kind_store.proofs.seats.Seats.replace.Goals as goal

pub unreachable-requires : goal.unreachable-requires
unreachable-requires g c =
    let i = c.self.inside in
    let held = rw (← c.self.view_is) at c.requires.loaded in
    let h = held_at g.T.Descriptor.called g.T.Descriptor.KIND i.slots i.by_serial i.records i.by_name c.self.invariant c.args.ident.slot held.0 held.1 in
    let holds = h.holds in
    let none = c.in_default.ensures in
    cc

pub index_mut-seat-requires : goal.index_mut-seat-requires
index_mut-seat-requires g c =
    let s = c.self.invariant.seated c.args.ident.slot c.in-Some.key (sym c.in-Some.ensures) in
    some_is _ s.seat s.at

-- the content has the name that the one before had
pub invariant_of-self : goal.invariant_of-self
invariant_of-self g c =
    let i = c.self.inside in
    let s = c.self.invariant in
    let called = g.T.Descriptor.called in
    let kind = g.T.Descriptor.KIND in
    let key = c.in-Some.key in
    let seat = c.index_mut-seat.result.now in
    let at = c.index_mut-seat.ensures.value in
    let name = rw (← c.self.view_is) at c.requires.name in
    let there = shown_at called kind i.slots i.by_serial i.records i.by_name s c.args.ident.slot key seat (sym c.in-Some.ensures) at in
    let on = (seat_on called kind i.slots i.by_serial i.records i.by_name s c.args.ident.slot key seat (sym c.in-Some.ensures) at).0 in
    let now : Seat g.row.T.Denot = record { owner = seat.owner; is_loaded = seat.is_loaded; loaded = with_value c.args.value seat.loaded } in
    let shown = shown_at called kind i.slots i.by_serial i.records i.by_name s seat.loaded.ident.slot key seat (s.slotted key seat at on) at in
    let listed = serials-same (cells_in i.records.slots i.slots) i.by_serial s.serials seat.loaded.ident.slot seat.loaded now.loaded shown refl refl in
    rw c.replace.ensures.after (changed-sound called kind i.slots i.by_serial i.records i.by_name s key seat now at (sym (name seat.loaded there)) on on refl i.by_serial listed)

pub returns-clause-content : goal.returns-clause-content
returns-clause-content g c =
    let i = c.self.inside in
    let s = c.self.invariant in
    let called = g.T.Descriptor.called in
    let kind = g.T.Descriptor.KIND in
    let seat = c.index_mut-seat.result.now in
    let held = rw (← c.self.view_is) at c.requires.loaded in
    let shown = shown_at called kind i.slots i.by_serial i.records i.by_name s c.args.ident.slot c.in-Some.key seat (sym c.in-Some.ensures) c.index_mut-seat.ensures.value in
    let is = seat_there called kind i.slots i.by_serial i.records i.by_name s c.args.ident.slot c.in-Some.key seat held.0 (sym c.in-Some.ensures) c.index_mut-seat.ensures.value held.1 in
    rw (← c.self.view_is) (seat.loaded, shown, ap (λ (x : Loaded g.row.T.Denot). x.ident) (sym is) ∙ held.2, sym c.replace.ensures.value)

pub returns-clause-cells : goal.returns-clause-cells
returns-clause-cells g c =
    let i = c.self.inside in
    let s = c.self.invariant in
    let called = g.T.Descriptor.called in
    let kind = g.T.Descriptor.KIND in
    let key = c.in-Some.key in
    let seat = c.index_mut-seat.result.now in
    let at = c.index_mut-seat.ensures.value in
    let name = rw (← c.self.view_is) at c.requires.name in
    let own = seat_on called kind i.slots i.by_serial i.records i.by_name s c.args.ident.slot key seat (sym c.in-Some.ensures) at in
    let now : Seat g.row.T.Denot = record { owner = seat.owner; is_loaded = seat.is_loaded; loaded = with_value c.args.value seat.loaded } in
    let shown = shown_at called kind i.slots i.by_serial i.records i.by_name s c.args.ident.slot key seat (sym c.in-Some.ensures) at in
    let cells = changed-cells called kind i.slots i.by_serial i.records i.by_name s key seat now at (sym (name seat.loaded shown)) own.0 in
    let all = cells_in i.records.slots i.slots in
    rw (← c.self.view_is, c.replace.ensures.after) (cells ∙ ap (λ k. set all k (Some now.loaded)) own.1 ∙ ap (λ o. set all c.args.ident.slot (option_map (with_value c.args.value) o)) (sym shown))

pub returns-clause-shelf : goal.returns-clause-shelf
returns-clause-shelf g c =
    let i = c.self.inside in
    let s = c.self.invariant in
    let called = g.T.Descriptor.called in
    let kind = g.T.Descriptor.KIND in
    let key = c.in-Some.key in
    let seat = c.index_mut-seat.result.now in
    let at = c.index_mut-seat.ensures.value in
    let name = rw (← c.self.view_is) at c.requires.name in
    let shown = shown_at called kind i.slots i.by_serial i.records i.by_name s c.args.ident.slot key seat (sym c.in-Some.ensures) at in
    let on = (seat_on called kind i.slots i.by_serial i.records i.by_name s c.args.ident.slot key seat (sym c.in-Some.ensures) at).0 in
    let now : Seat g.row.T.Denot = record { owner = seat.owner; is_loaded = seat.is_loaded; loaded = with_value c.args.value seat.loaded } in
    rw (← c.self.view_is, c.replace.ensures.after) (ap (λ (rs : List (Shelved g.row.T.Denot)). record { room = i.by_name.room; rows = rs }) (changed-rows called kind i.slots i.by_serial i.records i.by_name s key seat now at (sym (name seat.loaded shown)) on on refl))
