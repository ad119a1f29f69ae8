use Rattle.journal_tables.proofs.kind_slots.KindSlots.take.Goals as goal

pub returns-in-Kernel-clause-count : goal.returns-in-Kernel-clause-count
returns-in-Kernel-clause-count c = rw c.in-Kernel.is c.take.ensures.count

pub returns-in-Space-clause-count : goal.returns-in-Space-clause-count
returns-in-Space-clause-count c = rw c.in-Space.is c.take-in-Space.ensures.count

pub returns-in-Thread-clause-count : goal.returns-in-Thread-clause-count
returns-in-Thread-clause-count c = rw c.in-Thread.is c.take-in-Thread.ensures.count

pub returns-in-Mapping-clause-count : goal.returns-in-Mapping-clause-count
returns-in-Mapping-clause-count c = rw c.in-Mapping.is c.take-in-Mapping.ensures.count
