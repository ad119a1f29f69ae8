-- The receivers of a frame are those of its fit signal rows.
use Rattle.std.proofs.Common.{◌≡◌, Bool, true, false, cond, List, [], ◌∷◌, ◌++◌, map, filter, Option, Some, None, is_some, refl, ap, sym, ◌∙◌}
use Rattle.std.specs.Prelude.{if◌then◌else◌, ◌==◌, ◌&&◌, option_to_list}
use Rattle.std.specs.List.{cons_option}
use Rattle.std.specs.Option.{option_map}
use Rattle.cache_ident.specs.declared.names.Frame.{Frame}
use Rattle.cache_ident.specs.declared.names.ThreadNo.{ThreadNo}
use Rattle.cache_ident.specs.declared.names.Vpn.{Vpn}
use Rattle.phys_groups.specs.declared.rows.Row.{Row}
use Rattle.flat_state.specs.signal_pages.specs.Signals.{is_signal_row_of, receivers_in}
use Rattle.flat_state.specs.State.{FlatState}
use Rattle.flat_state.specs.Translation.{is_fit_row}
use Rattle.flat_state.specs.Signals.{receivers_of}
use Rattle.flat_state.specs.Dependence.{signal_rows_of}
use Rattle.flat_laws.specs.Rows.{receivers_among}

-- with one row in front
one_more : (row : Row) (receivers : List (ThreadNo × Vpn)) (rows : List Row) (here fit : Bool) (o : Option ThreadNo) → row.receiver ≡ o → receivers ≡ receivers_among rows
    → option_to_list (if here && fit then option_map (λ thread. (thread, row.vpn)) o else None) ++ receivers ≡ receivers_among (cond ((here && is_some o) && fit) (row ∷ rows) rows)
one_more row receivers rows true true None is rest = rest
one_more row receivers rows true true (Some thread) is rest =
    ap (λ (others : List (ThreadNo × Vpn)). (thread, row.vpn) ∷ others) rest ∙ ap (λ (o : Option ThreadNo). cons_option (option_map (λ thread. (thread, row.vpn)) o) (receivers_among rows)) (sym is)
one_more row receivers rows true false None is rest = rest
one_more row receivers rows true false (Some thread) is rest = rest
one_more row receivers rows false fit o is rest = rest

receivers-filter : (frame : Frame) (fit : Row → Bool) (rows : List Row) → receivers_in frame rows (map fit rows) ≡ receivers_among (filter (λ row. is_signal_row_of frame row && fit row) rows)
receivers-filter frame fit [] = refl
receivers-filter frame fit (row ∷ rows) =
    one_more row (receivers_in frame rows (map fit rows)) (filter (λ other. is_signal_row_of frame other && fit other) rows) (row.frame.0 == frame.0) (fit row) row.receiver refl (receivers-filter frame fit rows)

pub frame_receivers : (s : FlatState) (frame : Frame) → receivers_of s frame ≡ receivers_among (filter (λ row. is_signal_row_of frame row && is_fit_row s row) s.rows)
frame_receivers s frame = receivers-filter frame (is_fit_row s) s.rows

pub message_receivers : (s : FlatState) (row : Row) → row.flags.m ≡ true → receivers_of s row.frame ≡ receivers_among (signal_rows_of s row)
message_receivers s row is =
    frame_receivers s row.frame
    ∙ ap (λ (m : Bool). receivers_among (if m then filter (λ other. is_signal_row_of row.frame other && is_fit_row s other) s.rows else [])) (sym is)
