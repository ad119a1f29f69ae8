-- What is read of the tables is what they show.
use Rattle.std.proofs.Common.{◌≡◌, ℕ, ◌≤◌, ◌<◌, List, [], ◌∷◌, ◌++◌, length, filter, filter_map, count_by, Option, Some, None, refl, sym, subst, ◌∙◌, ap, arith}
use Rattle.std.specs.List.{cons_option}
use Rattle.std.proofs.lemmas.List.{append-nil, length-map}
use Rattle.std.proofs.lemmas.List.Elements.{filter_map-append}
use Rattle.std.proofs.lemmas.List.Sums.{length-filter}
use Rattle.cache_ident.specs.declared.idents.Kind.TheVariants.{Mapping}
use Rattle.cache_ident.specs.declared.names.Frame.{Frame}
use Rattle.cache_ident.specs.declared.names.Name.{Name}
use Rattle.phys_groups.specs.declared.rows.Row.{Row}
use Rattle.phys_groups.specs.Rows.{row_name}
use Rattle.flat_state.specs.signal_pages.specs.Signals.{is_signal_row_of}
use Rattle.flat_state.specs.declared.events.Machine.{Machine}
use Rattle.flat_state.specs.WellFormed.{IsWellFormed}
use Rattle.board_laws.specs.flat_laws.proofs.Members.{length-filter_map}
use Rattle.flat_report.specs.declared.counts.RowCounts.{RowCounts}
use Rattle.flat_report.specs.Counts.{AreCounts, CountsFew}
use Rattle.thread_sets.specs.row_store.specs.Kept.{signal_names}
use Rattle.board_laws.specs.desc_stores.specs.Contents.{content_of, names_of, Contents}
use Rattle.board_laws.specs.desc_stores.specs.Sound.{IsExactlyOne}
use Rattle.board_laws.specs.shown_state.specs.Shown.{row_of_item, shown}
use Rattle.board_laws.specs.shown_state.proofs.LookupLemmas.{signals_listed, signals_named}
use Rattle.cached_machine.specs.Cached.{state_of, Cached}

-- which machine it is and its memory are those of the state that is shown
pub shows_machine : (m : Cached) → Some m.machine ≡ (state_of m).machine
unfolding shown
shows_machine m = refl

pub shows_memory : (m : Cached) → m.memory ≡ (state_of m).memory
unfolding shown
shows_memory m = refl

-- whatever the machine and its memory, no frame has more than four signal rows
pub four_signals : (m : Cached) → IsWellFormed (state_of m) → (frame : Frame) (machine : Option Machine) (memory : List ℕ) → count_by (is_signal_row_of frame) (shown machine memory m.held.contents).rows ≤ 4
unfolding shown
four_signals m formed frame machine memory = formed.rows.signals frame

-- the row of a name, if it is that of one
abbrev pub row_in : Contents → Name → Option Row
row_in c n = row_of_item (content_of c n)

module _ (c : Contents) (gone : List Name) (n : Name) (rows : List Row) (before : rows ≡ filter_map (row_in c) gone) where
  -- one name more has a row, or has none
  pub one_row_more : (row : Row) → Some row ≡ row_in c n → rows ++ row ∷ [] ≡ filter_map (row_in c) (gone ++ n ∷ [])
  one_row_more row here =
      ap (λ (rs : List Row). rs ++ row ∷ []) before
      ∙ ap (λ (o : Option Row). filter_map (row_in c) gone ++ cons_option o []) here
      ∙ sym (filter_map-append (row_in c) gone (n ∷ []))

  pub no_row_more : None ≡ row_in c n → rows ≡ filter_map (row_in c) (gone ++ n ∷ [])
  no_row_more here =
      before
      ∙ sym (append-nil (filter_map (row_in c) gone))
      ∙ ap (λ (o : Option Row). filter_map (row_in c) gone ++ cons_option o []) here
      ∙ sym (filter_map-append (row_in c) gone (n ∷ []))

  -- there are no more rows than names
  pub few_rows : length rows ≤ length gone
  few_rows = omega (arith, ap length before, length-filter_map (row_in c) gone)

-- the signal rows of a frame have no more names than there are
pub few_signals : (machine : Option Machine) (memory : List ℕ) (c : Contents) → IsExactlyOne c → (frame : Frame) → length (signal_names c.rows frame) ≡ count_by (is_signal_row_of frame) (shown machine memory c).rows
few_signals machine memory c one frame =
    let rows = (shown machine memory c).rows in
    sym (ap length (signals_named machine memory c one frame)) ∙ length-map (filter (is_signal_row_of frame) rows) row_name ∙ length-filter (is_signal_row_of frame) rows

-- all names that came have the rows that are shown
pub all_rows : (machine : Option Machine) (memory : List ℕ) (c : Contents) (frame : Frame) (gone : List Name) (rows : List Row) → rows ≡ filter_map (row_in c) gone → gone ≡ signal_names c.rows frame → rows ≡ filter (is_signal_row_of frame) (shown machine memory c).rows
all_rows machine memory c frame gone rows are all = are ∙ ap (filter_map (row_in c)) all ∙ sym (signals_listed machine memory c frame)

-- ---- rows counted by name

module _ (c : Contents) (gone : List Name) (spaces : ℕ) where
  -- so many names have fewer rows than can be counted
  pub few_counted : (all : List Name) (counts : List RowCounts) → length gone < length all → length all ≤ 262144 → AreCounts (filter_map (row_in c) gone) spaces counts → CountsFew counts
  few_counted all counts fewer few are =
      (filter_map (row_in c) gone, spaces, are, omega (arith, fewer, few, length-filter_map (row_in c) gone))

  -- one name more has a row, or has none
  pub one_counted_more : (n : Name) (counts : List RowCounts) (row : Row) → Some row ≡ row_in c n → AreCounts (filter_map (row_in c) gone ++ row ∷ []) spaces counts → AreCounts (filter_map (row_in c) (gone ++ n ∷ [])) spaces counts
  one_counted_more n counts row here = subst (λ rows. AreCounts rows spaces counts) (one_row_more c gone n (filter_map (row_in c) gone) refl row here)

  pub none_counted_more : (n : Name) (counts : List RowCounts) → None ≡ row_in c n → AreCounts (filter_map (row_in c) gone) spaces counts → AreCounts (filter_map (row_in c) (gone ++ n ∷ [])) spaces counts
  none_counted_more n counts here = subst (λ rows. AreCounts rows spaces counts) (no_row_more c gone n (filter_map (row_in c) gone) refl here)

-- the rows that are shown are those of all names
pub all_counted : (c : Contents) (gone : List Name) (counts : List RowCounts) → gone ≡ names_of c Mapping → AreCounts (filter_map (row_in c) gone) c.space_count counts → (machine : Option Machine) (memory : List ℕ) → length (shown machine memory c).spaces ≡ c.space_count → AreCounts (shown machine memory c).rows (length (shown machine memory c).spaces) counts
unfolding shown
all_counted c gone counts all are machine memory spaces =
    subst (λ n. AreCounts (shown machine memory c).rows n counts) (sym spaces) (subst (λ names. AreCounts (filter_map (row_in c) names) c.space_count counts) all are)
