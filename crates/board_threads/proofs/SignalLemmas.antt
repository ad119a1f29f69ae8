-- Nobody is held where no row has a receiver.
use Rattle.std.proofs.Common.{◌≡◌, List, [], filter, filter_map, map, Option, Some, None, refl, sym, ◌∙◌, ap}
use Rattle.cache_ident.specs.declared.names.Frame.{Frame}
use Rattle.cache_ident.specs.declared.names.Name.{Name}
use Rattle.cache_ident.specs.declared.names.ThreadNo.{ThreadNo}
use Rattle.cache_ident.specs.declared.names.Vpn.{Vpn}
use Rattle.phys_groups.specs.declared.rows.Row.{Row}
use Rattle.flat_state.specs.signal_pages.specs.Signals.{is_signal_row_of, receivers_in}
use Rattle.flat_state.specs.declared.records.FlatThread.{FlatThread}
use Rattle.flat_state.specs.declared.records.Signal.{Signal}
use Rattle.flat_state.specs.Signals.{full_among, full_receiver, next_signal, receivers_for, receivers_of}
use Rattle.flat_state.specs.State.{FlatState}
use Rattle.flat_state.specs.Translation.{is_fit_row}
use Rattle.flat_rules.proofs.Known.{receivers-of-signal-rows}
use Rattle.board_checks.specs.row_store.specs.Kept.{signal_names}
use Rattle.board_checks.specs.desc_stores.specs.Contents.{content_of}
use Rattle.board_checks.specs.shown_state.specs.Shown.{row_of_item}
use Rattle.board_checks.specs.shown_state.proofs.LookupLemmas.{signals_listed}
use Rattle.board_core.specs.cached_machine.specs.Cached.{state_of, Cached}

module _ (s : FlatState) (none : (frame : Frame) → filter (is_signal_row_of frame) s.rows ≡ []) where
  nobody_of : (frame : Frame) → receivers_of s frame ≡ []
  nobody_of frame =
      sym (receivers-of-signal-rows frame (is_fit_row s) s.rows)
      ∙ ap (λ (rows : List Row). receivers_in frame rows (map (is_fit_row s) rows)) (none frame)

  nobody_for : (signal : Option Signal) → receivers_for s signal ≡ []
  nobody_for None = refl
  nobody_for (Some signal) = nobody_of signal.frame

  nobody_full : (t : FlatThread) → full_receiver s t ≡ None
  nobody_full t = ap (λ (receivers : List (ThreadNo × Vpn)). full_among s.threads (map (λ receiver. receiver.0) receivers)) (nobody_for (next_signal s t))

-- where no frame has signal rows, no receiver has too little room
pub none_full : (m : Cached) → ((frame : Frame) → signal_names m.held.contents.rows frame ≡ []) → (t : FlatThread) → full_receiver (state_of m) t ≡ None
none_full m none =
    let row_in = λ (n : Name). row_of_item (content_of m.held.contents n) in
    nobody_full (state_of m) (λ frame. signals_listed (Some m.machine) m.memory m.held.contents frame ∙ ap (filter_map row_in) (none frame))
