use Rattle.std.proofs.Common.{◌+◌, ◌*◌, ◌≤◌, count_by, is_some, refl, ap, arith}
use Rattle.slab.specs.Slab.{Slab}
use Rattle.slot_cache.specs.declared.seats.Seat.{Seat}
use Rattle.kind_store.proofs.SeatedLemmas.{in_order}
use Rattle.kind_store.proofs.SeatEdits.{sound-after, sound-grown}
use Rattle.kind_store.proofs.seats.Seats.make_room.Goals as goal

pub invariant_of-self : goal.invariant_of-self
invariant_of-self g c =
    let i = c.self.inside in
    let e = c.reserve.ensures in
    let s = c.self.invariant in
    sound-grown g.T.Descriptor.called g.T.Descriptor.KIND i.slots i.by_serial i.records i.by_name s c.reserve.new.self i.by_name (ap (λ (r : Slab (Seat g.row.T.Denot)). r.slots) e.rest_kept) refl s.index_is (omega (arith, s.roomy, e.capacity))

pub invariant_of-self-2 : goal.invariant_of-self-2
invariant_of-self-2 g c =
    let i = c.self.inside in
    let s = c.self.invariant in
    let e = c.reserve.ensures in
    let room = 2 * c.room.result + 1 in
    let slots = ap (λ (r : Slab (Seat g.row.T.Denot)). r.slots) e.rest_kept in
    let roomy : room ≤ c.reserve.new.self.capacity = omega (arith, c.in_ok-reserve.ensures.room, ap (λ l. count_by is_some l) slots, s.counted, s.index_is.few, c.room.ensures.room, c.len.ensures.len) in
    sound-after g.T.Descriptor.called g.T.Descriptor.KIND i.slots i.by_serial i.records i.by_name s c.grow.result room c.reserve.new.self c.grow.new.self c.grow.ensures.ok c.grow.ensures.err c.grow.ensures.proper slots (omega (arith, c.room.ensures.room)) roomy

pub returns-in_err-reserve-clause-sound : goal.returns-in_err-reserve-clause-sound
returns-in_err-reserve-clause-sound g c = in_order g.T.Descriptor.called g.T.Descriptor.KIND c.self.inside.slots c.self.inside.by_serial c.reserve.new.self c.self.inside.by_name (invariant_of-self g c)

pub returns-clause-sound : goal.returns-clause-sound
returns-clause-sound g c = in_order g.T.Descriptor.called g.T.Descriptor.KIND c.self.inside.slots c.self.inside.by_serial c.reserve.new.self c.grow.new.self (invariant_of-self-2 g c)
