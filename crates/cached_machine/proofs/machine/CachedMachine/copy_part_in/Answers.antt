use Rattle.cached_machine.proofs.RoomLaws.{memory_sound}
use Rattle.cached_machine.proofs.machine.CachedMachine.copy_part_in.Goals as goal

pub invariant_of-self : goal.invariant_of-self
invariant_of-self c =
    let i = c.self.inside in
    (memory_sound i.machine i.memory c.copy_part_in.new.self i.tables i.sets i.granted c.copy_part_in.ensures.size c.self.invariant.0, c.self.invariant.1)
