use Rattle.journal_rules.proofs.Naming.{fit_kernel, fit_space, fit_thread, fit_row}
use Rattle.journal_rules.proofs.names.is_fit.Goals as goal

pub returns-in-Kernel : goal.returns-in-Kernel
returns-in-Kernel c = fit_kernel c.args.flat.now c.args.name c.in-Kernel.field-0 c.in-Kernel.is

pub returns-in-Space : goal.returns-in-Space
returns-in-Space c = fit_space c.args.flat.now c.args.name c.in-Space.field-0 c.in-Space.is

pub returns-in-Thread : goal.returns-in-Thread
returns-in-Thread c = fit_thread c.args.flat.now c.args.name c.in-Thread.field-0 c.in-Thread.is

pub returns-in-Mapping : goal.returns-in-Mapping
returns-in-Mapping c = fit_row c.args.flat.now c.args.name c.is_fit.result c.in-Mapping.space c.in-Mapping.vpn c.in-Mapping.is c.is_fit.ensures
