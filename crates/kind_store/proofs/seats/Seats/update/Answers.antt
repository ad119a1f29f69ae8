use Rattle.std.proofs.Common.{is_some, refl, sym, ap, ◌∙◌}
use Rattle.std.specs.Fn.{FnOnceReturnsAtMut}
use Rattle.std.proofs.lemmas.Bool.{false≢true}
use Rattle.owner_shelf.proofs.SoundLemmas.{some_is}
use Rattle.kind_store.specs.Seated.{seen_in}
use Rattle.kind_store.proofs.SeatedLemmas.{in_order, kept_at, lead_is, nothing_loaded, nothing_shelved, seat_named, seat_seen}
use Rattle.kind_store.proofs.SeatUpdates.{update-cells, update-contents, update-enrolled, update-rows, update-sound}
use Rattle.kind_store.proofs.SeenLemmas.{no_content, seat_content}
use Rattle.kind_store.proofs.seats.Seats.update.Goals as goal

pub unreachable-requires : goal.unreachable-requires
unreachable-requires g c =
    let i = c.self.inside in
    let s = c.self.invariant in
    let called = g.T.Descriptor.called in
    let kind = g.T.Descriptor.KIND in
    let seen = seen_in i.slots i.records i.by_name in
    let absent = c.in_default.ensures.absent in
    let none = no_content called kind seen (in_order called kind i.slots i.by_serial i.records i.by_name s) c.args.name (nothing_loaded called kind i.slots i.by_serial i.records i.by_name s seen refl c.args.name absent) (nothing_shelved called kind i.slots i.by_serial i.records i.by_name s seen refl c.args.name absent) in
    false≢true (sym (ap is_some none) ∙ (rw (← c.self.view_is) at c.requires.there))

pub index_mut-seat-requires : goal.index_mut-seat-requires
index_mut-seat-requires g c =
    let i = c.self.inside in
    let s = c.self.invariant in
    let called = g.T.Descriptor.called in
    let kind = g.T.Descriptor.KIND in
    let has = kept_at called kind i.slots i.by_serial i.records i.by_name s c.args.name c.in-Some.key (lead_is called kind i.slots i.by_serial i.records i.by_name s c.args.name c.in-Some.key c.in-Some.ensures.found) in
    some_is _ has.0 has.1

-- the change leaves the name
pub invariant_of-self : goal.invariant_of-self
invariant_of-self g c =
    let i = c.self.inside in
    let s = c.self.invariant in
    let called = g.T.Descriptor.called in
    let kind = g.T.Descriptor.KIND in
    let key = c.in-Some.key in
    let seat = c.index_mut-seat.result.now in
    let at = c.index_mut-seat.ensures.value in
    let seen = seen_in i.slots i.records i.by_name in
    let there = lead_is called kind i.slots i.by_serial i.records i.by_name s c.args.name key c.in-Some.ensures.found in
    let was = seat_content called kind seen (in_order called kind i.slots i.by_serial i.records i.by_name s) c.args.name seat (seat_seen called kind i.slots i.by_serial i.records i.by_name s seen refl c.args.name key seat there at) in
    let gave : FnOnceReturnsAtMut g.F.FnOnce c.args.change seat.loaded.value c.change.result c.change.new.arg2 = record { shown = _; shows = refl; left = _; met = c.change.ensures; leaves = refl } in
    let named = rw (← c.self.view_is) at c.requires.named in
    let same = named seat.loaded.value c.change.result c.change.new.arg2 was gave in
    update-sound called kind i.slots i.by_serial i.records i.by_name s key seat at c.change.new.arg2 same

pub returns-clause-updated : goal.returns-clause-updated
returns-clause-updated g c =
    let i = c.self.inside in
    let s = c.self.invariant in
    let called = g.T.Descriptor.called in
    let kind = g.T.Descriptor.KIND in
    let key = c.in-Some.key in
    let seat = c.index_mut-seat.result.now in
    let at = c.index_mut-seat.ensures.value in
    let seen = seen_in i.slots i.records i.by_name in
    let there = lead_is called kind i.slots i.by_serial i.records i.by_name s c.args.name key c.in-Some.ensures.found in
    let was = seat_content called kind seen (in_order called kind i.slots i.by_serial i.records i.by_name s) c.args.name seat (seat_seen called kind i.slots i.by_serial i.records i.by_name s seen refl c.args.name key seat there at) in
    let gave : FnOnceReturnsAtMut g.F.FnOnce c.args.change seat.loaded.value c.change.result c.change.new.arg2 = record { shown = _; shows = refl; left = _; met = c.change.ensures; leaves = refl } in
    let named = rw (← c.self.view_is) at c.requires.named in
    let left = c.change.new.arg2 in
    let same = named seat.loaded.value c.change.result left was gave in
    let own = seat_named called kind i.slots i.by_serial i.records i.by_name s c.args.name key seat there at in
    let cells = update-cells called kind i.slots i.by_serial i.records i.by_name s key seat at left same in
    let rows = update-rows called kind i.slots i.by_serial i.records i.by_name s key seat at left same in
    let contents = update-contents called kind i.slots i.by_serial i.records i.by_name s key seat at left same in
    rw (← c.self.view_is) (record {
      value = seat.loaded.value;
      was = was;
      left = left;
      called_with = gave;
      named = same ∙ own;
      is = rw (cells, rows, own) refl;
      contents = rw own at contents;
    })

pub returns-clause-enrolled : goal.returns-clause-enrolled
returns-clause-enrolled g c =
    let i = c.self.inside in
    let s = c.self.invariant in
    let called = g.T.Descriptor.called in
    let kind = g.T.Descriptor.KIND in
    let seat = c.index_mut-seat.result.now in
    let at = c.index_mut-seat.ensures.value in
    let seen = seen_in i.slots i.records i.by_name in
    let there = lead_is called kind i.slots i.by_serial i.records i.by_name s c.args.name c.in-Some.key c.in-Some.ensures.found in
    let was = seat_content called kind seen (in_order called kind i.slots i.by_serial i.records i.by_name s) c.args.name seat (seat_seen called kind i.slots i.by_serial i.records i.by_name s seen refl c.args.name c.in-Some.key seat there at) in
    let gave : FnOnceReturnsAtMut g.F.FnOnce c.args.change seat.loaded.value c.change.result c.change.new.arg2 = record { shown = _; shows = refl; left = _; met = c.change.ensures; leaves = refl } in
    let named = rw (← c.self.view_is) at c.requires.named in
    rw (← c.self.view_is) (update-enrolled called kind i.slots i.by_serial i.records i.by_name s c.in-Some.key seat at c.change.new.arg2 (named seat.loaded.value c.change.result c.change.new.arg2 was gave))

pub returns-clause-sound : goal.returns-clause-sound
returns-clause-sound g c = in_order g.T.Descriptor.called g.T.Descriptor.KIND c.self.inside.slots c.self.inside.by_serial _ c.self.inside.by_name (invariant_of-self g c)
