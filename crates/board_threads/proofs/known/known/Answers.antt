use Rattle.std.proofs.Common.{Some}
use Rattle.board_checks.specs.shown_state.proofs.LookupLemmas.{all_found}
use Rattle.board_threads.proofs.known.known.Goals as goal

pub returns-clause-found : goal.returns-clause-found
returns-clause-found c =
    let m = c.args.core.now.machine in
    all_found (Some m.machine) m.memory m.held.contents c.holds.ensures.tables.1.whole.one
