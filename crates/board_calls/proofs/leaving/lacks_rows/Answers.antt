use Rattle.std.proofs.Common.{◌∙◌}
use Rattle.board_core.specs.cached_machine.specs.Cached.{state_of}
use Rattle.board_calls.proofs.RowLaws.{no_row, signal_row_at}
use Rattle.board_calls.proofs.leaving.lacks_rows.Goals as goal

pub is_fit-requires-clause-space : goal.is_fit-requires-clause-space
is_fit-requires-clause-space c =
    let items = c.as_slice-row-items in
    (signal_row_at (state_of c.args.machine.now) c.known.ensures.formed c.args.frame items.result.now (items.ensures.value ∙ c.signal_rows-rows.ensures) c.loop-row.row-index no_row c.loop-row-test.true).0

pub is_fit-requires-clause-frame : goal.is_fit-requires-clause-frame
is_fit-requires-clause-frame c =
    let items = c.as_slice-row-items in
    (signal_row_at (state_of c.args.machine.now) c.known.ensures.formed c.args.frame items.result.now (items.ensures.value ∙ c.signal_rows-rows.ensures) c.loop-row.row-index no_row c.loop-row-test.true).1
