use Rattle.journal_tables.proofs.kind_slots.KindSlots.release.Goals as goal

pub returns-in-Kernel-clause-count : goal.returns-in-Kernel-clause-count
returns-in-Kernel-clause-count c = rw c.in-Kernel.is c.release.ensures.count

pub returns-in-Space-clause-count : goal.returns-in-Space-clause-count
returns-in-Space-clause-count c = rw c.in-Space.is c.release-in-Space.ensures.count

pub returns-in-Thread-clause-count : goal.returns-in-Thread-clause-count
returns-in-Thread-clause-count c = rw c.in-Thread.is c.release-in-Thread.ensures.count

pub returns-in-Mapping-clause-count : goal.returns-in-Mapping-clause-count
returns-in-Mapping-clause-count c = rw c.in-Mapping.is c.release-in-Mapping.ensures.count
