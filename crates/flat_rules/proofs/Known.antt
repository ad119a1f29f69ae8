-- What is known of the threads and rows of a well-formed state.
use Rattle.std.proofs.Common.{◌≡◌, ℕ, ◌<◌, Bool, false, ◌&&◌, eqb, if◌then◌else◌, List, [], ◌∷◌, ◌++◌, length, map, get_or, Some, None, refl, ap, inl, inr, arith}
use Rattle.std.specs.List.{filter, slice_get, All, Contains}
use Rattle.std.specs.Option.{is_some, option_map, option_to_list}
use Rattle.std.proofs.lemmas.Bool.{and_parts, cases_Bool, eqb-true}
use Rattle.std.proofs.lemmas.List.Elements.{All-filter, Contains-get_or}
use Rattle.cache_ident.specs.declared.names.Frame.{Frame}
use Rattle.cache_ident.specs.declared.names.SpaceNo.{SpaceNo}
use Rattle.phys_groups.specs.declared.rows.Row.{Row}
use Rattle.phys_groups.specs.Translation.{is_row_of, row_of}
use Rattle.signal_pages.specs.Signals.{is_signal_row_of, receiver_of, receivers_in}
use Rattle.flat_state.specs.declared.records.FlatThread.{FlatThread}
use Rattle.flat_state.specs.State.{FlatState}
use Rattle.flat_state.specs.WellFormed.{IsWellFormed}
use Rattle.flat_state.proofs.Finding.{find-contains, find-passes}
use Rattle.flat_rules.specs.Readings.{IsInMemory, IsThreadOf}

-- a row that is no signal row of the frame gives no receiver
no_receiver : (frame : Frame) (row : Row) (fit : Bool) → is_signal_row_of frame row ≡ false → receiver_of frame row fit ≡ None
no_receiver frame row fit other = elim row.receiver as (λ o. ((eqb row.frame.0 frame.0) && is_some o) ≡ false → (if (eqb row.frame.0 frame.0) && fit then option_map (λ thread. (thread, row.vpn)) o else None) ≡ None) [
  | None ↦ λ e. grind (arith, e)
  | Some t ↦ λ e. grind (arith, e)
] other

module _ (s : FlatState) (formed : IsWellFormed s) where
  -- the frame of a row is in memory
  pub row_in_memory : (row : Row) → Contains s.rows row → IsInMemory s.memory row.frame
  row_in_memory row there =
      let r = formed.rows.each row there in
      record { below = omega (arith, r.frame, formed.memory.groups); within = omega (arith, r.frame, formed.memory.size) }

  pub row_has_space : (row : Row) → Contains s.rows row → row.space.0 < length s.spaces
  row_has_space row there = (formed.rows.each row there).space

  pub found_there : (space : SpaceNo) (vpn : ℕ) (row : Row) → row_of s.rows space vpn ≡ Some row → Contains s.rows row
  found_there space vpn row found = find-contains (is_row_of space vpn) s.rows row found

  -- a space with a row is declared
  pub found_space : (space : SpaceNo) (vpn : ℕ) (row : Row) → row_of s.rows space vpn ≡ Some row → space.0 < length s.spaces
  found_space space vpn row found =
      let of : row.space.0 ≡ space.0 = eqb-true row.space.0 space.0 (and_parts (eqb row.space.0 space.0) (eqb row.vpn.0 vpn) (find-passes (is_row_of space vpn) s.rows row found)).0 in
      omega (arith, of, row_has_space row (found_there space vpn row found))

  -- a thread of the state is one that it could have
  pub thread_is_of : (n : ℕ) (t : FlatThread) → slice_get s.threads n ≡ Some t → IsThreadOf s t
  thread_is_of n t at =
      let r = formed.threads.each n t at in
      record { number = refl; space = r.space; aligned = r.aligned; priority = r.priority; queued = r.queued }

  -- what is asked of a row is known of those that pass a test
  pub rows_known : (p : Row → Bool) → All (λ row. (row.space.0 < length s.spaces) × (row.frame.0 < 2048)) (filter p s.rows)
  rows_known p = All-filter p (λ row. (row.space.0 < length s.spaces) × (row.frame.0 < 2048)) s.rows (λ k d within.
      let there = Contains-get_or s.rows k d within in
      (row_has_space (get_or s.rows k d) there, (row_in_memory (get_or s.rows k d) there).below))

-- the receivers of a frame are those of its signal rows
pub receivers-of-signal-rows : (frame : Frame) (fit : Row → Bool) (rows : List Row) → receivers_in frame (filter (is_signal_row_of frame) rows) (map fit (filter (is_signal_row_of frame) rows)) ≡ receivers_in frame rows (map fit rows)
receivers-of-signal-rows frame fit [] = refl
receivers-of-signal-rows frame fit (row ∷ rows) = elim (cases_Bool (is_signal_row_of frame row)) [
  | inl signals ↦ rw signals (ap (λ rs. option_to_list (receiver_of frame row (fit row)) ++ rs) (receivers-of-signal-rows frame fit rows))
  | inr other ↦ rw (other, no_receiver frame row (fit row) other) (receivers-of-signal-rows frame fit rows)
]

-- what passes one test and then another passes both
pub filter-both : (p q : Row → Bool) (rows : List Row) → filter q (filter p rows) ≡ filter (λ row. p row && q row) rows
filter-both p q [] = refl
filter-both p q (row ∷ rows) = elim (cases_Bool (p row)) [
  | inl passes ↦ rw passes (elim (cases_Bool (q row)) [
    | inl both ↦ rw both (ap (λ rs. row ∷ rs) (filter-both p q rows))
    | inr fails ↦ rw fails (filter-both p q rows)
  ])
  | inr fails ↦ rw fails (filter-both p q rows)
]
