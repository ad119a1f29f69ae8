use Rattle.std.proofs.Common.{arith}
use Rattle.residents.proofs.SlotLemmas.{freed-le}
use Rattle.residents.proofs.slots.Slots.count.Goals as goal

pub overflow_cast-result : goal.overflow_cast-result
overflow_cast-result c = omega (arith, freed-le c.args.self.now.top c.args.self.now.freed c.args.self.now.below c.len.ensures.ordered)

pub overflow_sub-result : goal.overflow_sub-result
overflow_sub-result c = omega (arith, freed-le c.args.self.now.top c.args.self.now.freed c.args.self.now.below c.len.ensures.ordered)

pub returns : goal.returns
returns c = omega (arith, freed-le c.args.self.now.top c.args.self.now.freed c.args.self.now.below c.len.ensures.ordered)
