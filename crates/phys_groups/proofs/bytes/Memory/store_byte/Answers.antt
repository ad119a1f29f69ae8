use Rattle.phys_groups.proofs.Padded.{reached-byte}
use Rattle.phys_groups.proofs.bytes.Memory.store_byte.Goals as goal

pub returns-clause-after : goal.returns-clause-after
returns-clause-after c = reached-byte c.args.at c.self.invariant c.self.view_is c.requires c.reach.ensures.items c.args.value
