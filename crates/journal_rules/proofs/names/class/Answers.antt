use Rattle.std.proofs.Common.{◌∙◌, ap, sym}
use Rattle.flat_state.specs.Names.{class_of}
use Rattle.journal_rules.proofs.Naming.{row_classed}
use Rattle.journal_rules.proofs.names.class.Goals as goal

pub returns-in-Kernel : goal.returns-in-Kernel
unfolding class_of
returns-in-Kernel c = sym (ap (class_of c.args.flat.now) c.in-Kernel.is)

pub returns-in-Space : goal.returns-in-Space
unfolding class_of
returns-in-Space c = sym (ap (class_of c.args.flat.now) c.in-Space.is)

pub returns-in-Thread : goal.returns-in-Thread
unfolding class_of
returns-in-Thread c = sym (ap (class_of c.args.flat.now) c.in-Thread.is)

pub returns-in-Some : goal.returns-in-Some
returns-in-Some c = c.row_class.ensures ∙ row_classed c.args.flat.now c.args.name c.in-Mapping.space c.in-Mapping.vpn _ c.in-Mapping.is c.in-Some.ensures

pub returns-in-None : goal.returns-in-None
returns-in-None c = row_classed c.args.flat.now c.args.name c.in-Mapping.space c.in-Mapping.vpn _ c.in-Mapping.is c.in-None.ensures
