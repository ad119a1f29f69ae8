use Rattle.desc_tables.proofs.RoomLemmas.{sound_spare}
use Rattle.desc_tables.proofs.tables.Tables.reserve.Goals as goal

pub invariant_of-self : goal.invariant_of-self
invariant_of-self c = (sound_spare c.self.inside.stores c.reserve-reserved.new.self c.self.inside.pairs.caps c.self.inside.gone.items c.self.inside.left.items c.self.inside.pairs.pairs c.self.invariant.0 c.each_is_one.ensures c.reserve-reserved.ensures.stays, c.self.invariant.1, c.self.invariant.2, c.self.invariant.3)
