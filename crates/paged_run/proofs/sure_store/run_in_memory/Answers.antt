use Rattle.flat_rules.specs.flat_state.specs.State.{nothing_declared}
use Rattle.flat_machine.proofs.DeclareSound.{machine_rules}
use Rattle.paged_run.proofs.Opened.{machine_alone, machine_fits}
use Rattle.paged_run.proofs.sure_store.run_in_memory.Goals as goal

pub new-requires-clause-least : goal.new-requires-clause-least
new-requires-clause-least c =
    let m = c.first_machine-machine.result in
    (machine_rules nothing_declared m (machine_alone m (machine_fits c.args.decls.now _ m c.first_machine-machine.ensures c.requires.fit))).0

pub new-requires-clause-most : goal.new-requires-clause-most
new-requires-clause-most c =
    let m = c.first_machine-machine.result in
    (machine_rules nothing_declared m (machine_alone m (machine_fits c.args.decls.now _ m c.first_machine-machine.ensures c.requires.fit))).1
