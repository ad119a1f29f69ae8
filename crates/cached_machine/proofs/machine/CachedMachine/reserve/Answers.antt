use Rattle.std.proofs.Common.{ap, subst, arith}
use Rattle.board_laws.specs.desc_tables.specs.Tables.{Held}
use Rattle.cached_machine.specs.Cached.{Cached}
use Rattle.cached_machine.specs.Moved.{OnlyRoom}
use Rattle.cached_machine.proofs.AlikeLaws.{itself_but_room}
use Rattle.cached_machine.proofs.RoomLaws.{by_spare, only_room, room_out, room_sound, stays_beside}
use Rattle.cached_machine.proofs.machine.CachedMachine.reserve.Goals as goal

pub invariant_of-self : goal.invariant_of-self
invariant_of-self c =
    let i = c.self.inside in
    let h = c.reserve.new.self in
    let stays = c.reserve.ensures.stays in
    let rest = stays_beside i.tables h stays in
    let differs = by_spare i.tables.contents h.contents (ap (λ (x : Held). x.contents) stays) c.reserve.ensures.grows in (
      room_sound i.machine i.memory i.tables h i.sets i.sets rest differs (itself_but_room i.sets) i.granted c.self.invariant.0,
      room_out i.machine i.memory i.tables h i.sets i.sets rest differs (itself_but_room i.sets) c.self.invariant.1,
    )

pub returns-clause-only : goal.returns-clause-only
returns-clause-only c =
    let i = c.self.inside in
    let h = c.reserve.new.self in
    let stays = c.reserve.ensures.stays in
    let rest = stays_beside i.tables h stays in
    let differs = by_spare i.tables.contents h.contents (ap (λ (x : Held). x.contents) stays) c.reserve.ensures.grows in
    subst (λ (m : Cached). OnlyRoom m (record { machine = i.machine; memory = i.memory; held = h; sets = i.sets })) c.self.view_is
    (only_room i.machine i.memory i.tables h i.sets i.sets rest differs (itself_but_room i.sets) (omega arith))
