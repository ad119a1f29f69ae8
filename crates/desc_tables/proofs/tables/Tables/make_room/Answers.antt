use Rattle.desc_tables.proofs.RoomLemmas.{sound_room}
use Rattle.desc_tables.proofs.tables.Tables.make_room.Goals as goal

pub invariant_of-self : goal.invariant_of-self
invariant_of-self c = (sound_room c.self.inside.stores c.make_room-made.new.self c.self.inside.pairs.caps c.self.inside.gone.items c.self.inside.left.items c.self.inside.pairs.pairs c.self.invariant.0 c.each_is_one.ensures c.make_room-made.ensures.only, c.self.invariant.1, c.self.invariant.2, c.self.invariant.3)
