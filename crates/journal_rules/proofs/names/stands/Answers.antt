use Rattle.journal_rules.proofs.Naming.{stands_kernel, stands_space, stands_thread, stands_row}
use Rattle.journal_rules.proofs.names.stands.Goals as goal

pub returns-in-Kernel : goal.returns-in-Kernel
returns-in-Kernel c = stands_kernel c.args.flat.now c.args.name c.is_some.result c.in-Kernel.kernel c.limits.result c.in-Kernel.is c.limits.ensures c.is_some.ensures

pub returns-in-Space : goal.returns-in-Space
returns-in-Space c = stands_space c.args.flat.now c.args.name c.is_some-in-Space.result c.in-Space.space c.kernel_of.result c.in-Space.is c.kernel_of.ensures c.is_some-in-Space.ensures

pub returns-in-Thread : goal.returns-in-Thread
returns-in-Thread c = stands_thread c.args.flat.now c.args.name c.is_some-in-Thread.result c.in-Thread.thread c.thread.result c.in-Thread.is c.thread.ensures c.is_some-in-Thread.ensures

pub returns-in-Mapping : goal.returns-in-Mapping
returns-in-Mapping c = stands_row c.args.flat.now c.args.name c.is_some-in-Mapping.result c.in-Mapping.space c.in-Mapping.vpn c.row.result c.in-Mapping.is c.row.ensures c.is_some-in-Mapping.ensures
