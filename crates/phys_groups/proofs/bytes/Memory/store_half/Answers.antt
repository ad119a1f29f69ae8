use Rattle.std.proofs.Common.{◌/◌, ◌%◌, arith}
use Rattle.std.proofs.lemmas.Grind.{common_steps}
use Rattle.phys_groups.proofs.Padded.{reached-half}
use Rattle.phys_groups.proofs.bytes.Memory.store_half.Goals as goal

pub returns-clause-after : goal.returns-clause-after
returns-clause-after c = rw c.to_le_bytes.ensures (reached-half c.args.at c.self.invariant c.self.view_is c.requires.in_memory c.reach.ensures.items (c.args.value % 256) (c.args.value / 256 % 256) c.requires.aligned)

pub returns-clause-others : goal.returns-clause-others
returns-clause-others c = rw (returns-clause-after c) (grind (arith, common_steps))
