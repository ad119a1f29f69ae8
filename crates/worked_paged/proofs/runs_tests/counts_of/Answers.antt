use Rattle.std.proofs.Common.{drop, sym, subst}
use Rattle.flat_rules.specs.flat_state.specs.State.{nothing_declared}
use Rattle.flat_rules.specs.flat_state.specs.Events.{AllFit}
use Rattle.paged_run.specs.flat_machine.proofs.DeclareSound.{machine_rules}
use Rattle.paged_run.proofs.Opened.{machine_alone, machine_fits}
use Rattle.worked_paged.proofs.runs_tests.counts_of.Goals as goal

pub first_machine-machine-requires : goal.first_machine-machine-requires
first_machine-machine-requires c = rw c.decls.ensures c.in_ok-scenario.ensures.machine

pub new-requires-clause-least : goal.new-requires-clause-least
new-requires-clause-least c =
    let m = c.first_machine-machine.result in
    let ds = c.decls.result.now in
    (machine_rules nothing_declared m (machine_alone m (machine_fits ds (drop 1 ds) m c.first_machine-machine.ensures (subst (AllFit nothing_declared) (sym c.decls.ensures) c.in_ok-scenario.ensures.fit)))).0

pub new-requires-clause-most : goal.new-requires-clause-most
new-requires-clause-most c =
    let m = c.first_machine-machine.result in
    let ds = c.decls.result.now in
    (machine_rules nothing_declared m (machine_alone m (machine_fits ds (drop 1 ds) m c.first_machine-machine.ensures (subst (AllFit nothing_declared) (sym c.decls.ensures) c.in_ok-scenario.ensures.fit)))).1
