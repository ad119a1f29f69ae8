use Rattle.std.proofs.Common.{Some, subst}
use Rattle.board_checks.specs.desc_groups.specs.Whole.{IsWhole}
use Rattle.board_checks.specs.desc_stores.specs.Contents.{residents_of}
use Rattle.flat_state.specs.WellFormed.{IsWellFormed}
use Rattle.board_checks.specs.run_journal.specs.Legal.{AreGood}
use Rattle.board_core.specs.cached_machine.specs.Cached.{state_of, Cached}
use Rattle.board_calls.proofs.RowLaws.{good_shown}
use Rattle.board_core.proofs.SealLaws.{sealed_where_loaded}
use Rattle.board_calls.proofs.completions.known.Goals as goal

pub returns-clause-whole : goal.returns-clause-whole
returns-clause-whole c =
    let m = c.machine-2.result.now in
    let whole : IsWhole m.held.contents = (m.held.caps, c.tables_are_sound.ensures.sound.0, c.tables_are_sound.ensures.sound.1.whole) in
    subst (λ (x : Cached). IsWhole x.held.contents) c.machine-2.ensures whole

pub returns-clause-formed : goal.returns-clause-formed
returns-clause-formed c = subst (λ (x : Cached). IsWellFormed (state_of x)) c.machine.ensures c.holds-2.ensures

pub returns-clause-good : goal.returns-clause-good
returns-clause-good c =
    let m = c.machine-2.result.now in
    subst (λ (x : Cached). AreGood (state_of x) (residents_of x.held.contents)) c.machine-2.ensures (good_shown (Some m.machine) m.memory m.held.contents c.tables_are_sound.ensures.sound.1.whole.good)

pub returns-clause-sealed : goal.returns-clause-sealed
returns-clause-sealed c = sealed_where_loaded c.args.core.now c.holds.ensures
