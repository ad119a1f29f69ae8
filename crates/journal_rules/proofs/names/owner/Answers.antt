use Rattle.std.proofs.Common.{◌∙◌}
use Rattle.journal_rules.proofs.Naming.{kernel_owned, space_owned, thread_owned, row_owned}
use Rattle.journal_rules.proofs.names.owner.Goals as goal

pub returns-in_err-limits-in-Kernel : goal.returns-in_err-limits-in-Kernel
returns-in_err-limits-in-Kernel c = c.from_residual.ensures ∙ kernel_owned c.args.flat.now c.args.name c.in-Kernel.kernel _ c.in-Kernel.is c.in_err-limits-in-Kernel.ensures

pub returns-in_err-thread-in-Thread : goal.returns-in_err-thread-in-Thread
returns-in_err-thread-in-Thread c = c.from_residual-in_err-thread-in-Thread.ensures ∙ thread_owned c.args.flat.now c.args.name c.in-Thread.thread _ c.in-Thread.is c.in_err-thread-in-Thread.ensures

pub returns-in_err-row-in-Mapping : goal.returns-in_err-row-in-Mapping
returns-in_err-row-in-Mapping c = c.from_residual-in_err-row-in-Mapping.ensures ∙ row_owned c.args.flat.now c.args.name c.in-Mapping.space c.in-Mapping.vpn _ c.in-Mapping.is c.in_err-row-in-Mapping.ensures

pub returns-in_ok-limits-in-Kernel : goal.returns-in_ok-limits-in-Kernel
returns-in_ok-limits-in-Kernel c = kernel_owned c.args.flat.now c.args.name c.in-Kernel.kernel _ c.in-Kernel.is c.in_ok-limits-in-Kernel.ensures

pub returns-in-Space : goal.returns-in-Space
returns-in-Space c = c.kernel_of.ensures ∙ space_owned c.args.flat.now c.args.name c.in-Space.space c.in-Space.is

pub returns-in_ok-thread-in-Thread : goal.returns-in_ok-thread-in-Thread
returns-in_ok-thread-in-Thread c = c.kernel_of-in-Thread.ensures ∙ thread_owned c.args.flat.now c.args.name c.in-Thread.thread _ c.in-Thread.is c.in_ok-thread-in-Thread.ensures

pub returns-in_ok-row-in-Mapping : goal.returns-in_ok-row-in-Mapping
returns-in_ok-row-in-Mapping c = c.kernel_of-in-Mapping.ensures ∙ row_owned c.args.flat.now c.args.name c.in-Mapping.space c.in-Mapping.vpn _ c.in-Mapping.is c.in_ok-row-in-Mapping.ensures
