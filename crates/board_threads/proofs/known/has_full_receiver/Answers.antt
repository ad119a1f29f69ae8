use Rattle.std.proofs.Common.{◌≡◌, [], ap, subst, sym}
use Rattle.std.specs.Option.{is_some}
use Rattle.std.proofs.lemmas.Bool.{OnFalse_at}
use Rattle.cache_ident.specs.declared.names.Frame.{Frame}
use Rattle.board_checks.specs.row_store.specs.Kept.{signal_names}
use Rattle.board_checks.specs.desc_tables.specs.Tables.{Held}
use Rattle.board_checks.specs.shown_state.specs.Shown.{flat_thread}
use Rattle.board_threads.proofs.SignalLemmas.{none_full}
use Rattle.board_threads.proofs.known.has_full_receiver.Goals as goal

-- the tables have no signal rows
pub returns-then-not-has_signal_rows : goal.returns-then-not-has_signal_rows
returns-then-not-has_signal_rows c =
    let m = c.args.machine.now in
    let none = subst (λ (held : Held). (frame : Frame) → signal_names held.contents.rows frame ≡ []) c.tables.ensures.tables (OnFalse_at c.if-not-has_signal_rows.true c.has_signal_rows.ensures.none) in
    sym (ap is_some (none_full m none (flat_thread c.args.thread.now)))
