use Rattle.std.proofs.Common.{◌/◌, ◌%◌, arith}
use Rattle.std.proofs.lemmas.Grind.{common_steps}
use Rattle.phys_groups.proofs.Padded.{reached-word, word-within, word_at-written}
use Rattle.phys_groups.proofs.bytes.Memory.store_word.Goals as goal

pub returns-clause-after : goal.returns-clause-after
returns-clause-after c = rw c.to_le_bytes.ensures (reached-word c.args.at c.self.invariant c.self.view_is c.requires.in_memory c.reach.ensures.items (c.args.value % 256) (c.args.value / 256 % 256) (c.args.value / 65536 % 256) (c.args.value / 16777216 % 256) c.requires.aligned)

pub returns-clause-size : goal.returns-clause-size
returns-clause-size c = rw (returns-clause-after c) (grind (arith, common_steps))

pub returns-clause-reads_back : goal.returns-clause-reads_back
returns-clause-reads_back c =
    let within = word-within c.args.at c.self.invariant c.self.view_is c.requires.in_memory c.reach.ensures.items c.requires.aligned in
    rw (returns-clause-after c) (word_at-written c.args.self.now c.args.at c.args.value within (omega arith))

pub returns-clause-others : goal.returns-clause-others
returns-clause-others c = rw (returns-clause-after c) (grind (arith, common_steps))
