use Rattle.std.proofs.Common.{subst}
use Rattle.cached_machine.specs.Cached.{Cached}
use Rattle.cached_machine.specs.Moved.{OnlyRoom}
use Rattle.cached_machine.proofs.RoomLaws.{by_room, only_room, room_out, room_sound}
use Rattle.cached_machine.proofs.machine.CachedMachine.make_room.Goals as goal

pub invariant_of-self-2 : goal.invariant_of-self-2
invariant_of-self-2 c =
    let i = c.self.inside in
    let h = c.make_room-2.new.self in
    let differs = by_room i.tables.contents h.contents c.make_room-2.ensures.only in (
      room_sound i.machine i.memory i.tables h i.sets c.make_room.new.self c.make_room-2.ensures.rest differs c.make_room.ensures.same i.granted c.self.invariant.0,
      room_out i.machine i.memory i.tables h i.sets c.make_room.new.self c.make_room-2.ensures.rest differs c.make_room.ensures.same c.self.invariant.1,
    )

pub returns-clause-only : goal.returns-clause-only
returns-clause-only c =
    let i = c.self.inside in
    let h = c.make_room-2.new.self in
    let differs = by_room i.tables.contents h.contents c.make_room-2.ensures.only in
    subst (λ (m : Cached). OnlyRoom m (record { machine = i.machine; memory = i.memory; held = h; sets = c.make_room.new.self })) c.self.view_is
    (only_room i.machine i.memory i.tables h i.sets c.make_room.new.self c.make_room-2.ensures.rest differs c.make_room.ensures.same c.make_room.ensures.kept)
