-- The rows and the index of signal rows, as rows come, go and are marked.
use Rattle.std.proofs.Common.{◌≡◌, ℕ, zero, suc, ◌<◌, Bool, true, not, if◌then◌else◌, List, [], ◌∷◌, ◌++◌, length, get_or, map, filter, find, count_by, is_some, Some, None, sym, ap, ◌∙◌, subst, inl, inr, arith}
use Rattle.std.specs.List.{Contains}
use Rattle.std.proofs.lemmas.Bool.{cases_Bool}
use Rattle.std.proofs.lemmas.List.{get_or-map, length-map}
use Rattle.std.proofs.lemmas.List.Elements.{All-contains_itself, All-filter}
use Rattle.std.proofs.lemmas.List.Sums.{length-filter}
use Rattle.std.proofs.lemmas.Option.{none-some}
use Rattle.cache_ident.specs.declared.names.Frame.{Frame}
use Rattle.cache_ident.specs.declared.names.SpaceNo.{SpaceNo}
use Rattle.phys_groups.specs.declared.rows.Row.{Row}
use Rattle.signal_pages.specs.Signals.{is_signal_row_of}
use Rattle.row_table.specs.declared.pages.PageKey.{PageKey}
use Rattle.row_table.specs.declared.signals.SignalIndex.{SignalIndex}
use Rattle.row_table.specs.Pages.{is_of, key_of}
use Rattle.phys_groups.specs.Rows.{marked}
use Rattle.row_table.specs.Rows.{IsProper}
use Rattle.row_table.specs.SignalPages.{is_page, other_pages, pages_in, IsListed, IsSignalIndexOf, IsUnlisted}
use Rattle.row_table.specs.Soundness.{IsSound}
use Rattle.row_table.proofs.OnlyOne.{NonePass, filter-others, find-contained, find-passes}
use Rattle.row_table.proofs.PageLemmas.{is_of-own, one_of_page, page_is}
use Rattle.row_table.proofs.SignalLemmas.{listed-filter, listed-map, listed-push}
use Rattle.row_table.proofs.ProperLemmas.{Keeps-marked, is_signal_row_of-kept, IsProper-filter, IsProper-map, IsProper-push}

pub IsSound-map : (rows : List Row) (signals : SignalIndex) (space : SpaceNo) (vpn : ℕ) (written : Bool) → IsSound rows signals → IsSound (map (marked space vpn written) rows) signals
IsSound-map rows signals space vpn written sound =
    let f : Row → Row = marked space vpn written in
    let keeps = Keeps-marked space vpn written in
    record {
      proper = IsProper-map f keeps rows sound.proper;
      signal_pages = λ frame. sound.signal_pages frame ∙ sym (listed-map key_of (is_signal_row_of frame) f (is_signal_row_of-kept f keeps frame) keeps.page rows);
    }

-- how many pages a frame has
pub length_pages : (rows : List Row) (signals : SignalIndex) (frame : Frame) → IsSignalIndexOf rows signals → length (pages_in signals frame) ≡ count_by (is_signal_row_of frame) rows
length_pages rows signals frame listed = ap length (listed frame) ∙ length-map (filter (is_signal_row_of frame) rows) key_of ∙ length-filter (is_signal_row_of frame) rows

pub IsSound-push : (rows : List Row) (row : Row) (made signals : SignalIndex) → IsProper rows → IsSignalIndexOf rows made → NonePass (is_of (key_of row)) rows
    → (is_some row.receiver ≡ true → count_by (is_signal_row_of row.frame) rows < 4) → IsListed made signals row → IsSound (rows ++ row ∷ []) signals
IsSound-push rows row made signals proper listed none few more = record {
  proper = IsProper-push rows row proper none few;
  signal_pages = λ frame.
      more frame
      ∙ ap (λ (pages : List PageKey). pages ++ (if is_signal_row_of frame row then key_of row ∷ [] else [])) (listed frame)
      ∙ sym (listed-push key_of (is_signal_row_of frame) rows row);
}

-- the row of a page is taken out
pub IsSound-remove : (rows : List Row) (page : PageKey) (row : Row) (before after : SignalIndex) → IsSound rows before → find (is_of page) rows ≡ Some row → IsUnlisted before after row
    → IsSound (filter (λ other. not (is_of page other)) rows) after
IsSound-remove rows page row before after sound found less =
    let own : page ≡ key_of row = page_is page row (find-passes (is_of page) rows row found) in
    subst (λ (key : PageKey). IsSound (filter (λ other. not (is_of key other)) rows) after) (sym own)
    (record {
      proper = IsProper-filter (λ other. not (is_of (key_of row) other)) rows sound.proper;
      signal_pages = λ frame.
          less frame
          ∙ ap (λ (pages : List PageKey). if is_signal_row_of frame row then other_pages (key_of row) pages else pages) (sound.signal_pages frame)
          ∙ elim (cases_Bool (is_signal_row_of frame row)) [
            | inl h ↦ rw h (sym (listed-filter key_of (is_signal_row_of frame) (λ other. is_page other (key_of row)) rows))
            | inr h ↦
                rw h (ap (map key_of) (sym (filter-others (is_of (key_of row)) (is_signal_row_of frame) rows row (one_of_page (key_of row) rows sound.proper.one_row)
                (subst (λ (key : PageKey). find (is_of key) rows ≡ Some row) own found) h)))
          ];
    })

-- what stands at a place
at_place : (rows : List Row) (place : ℕ) → place < length rows → Row
at_place [] place lt = absurd (omega arith)
at_place (row ∷ rows) zero lt = row
at_place (row ∷ rows) (suc place) lt = at_place rows place (omega arith)

module _ (frame : Frame) (rows : List Row) (pages : List PageKey) (listed : pages ≡ map key_of (filter (is_signal_row_of frame) rows)) (i : ℕ) (lt : i < length pages) where
  pub within_filter : i < length (filter (is_signal_row_of frame) rows)
  within_filter = omega (arith, ap length listed, length-map (filter (is_signal_row_of frame) rows) key_of)

  -- the row of the page listed at i is the signal row at i
  pub signal_row_at : (e : PageKey) (d : Row) → IsProper rows → find (is_of (get_or pages i e)) rows ≡ Some (get_or (filter (is_signal_row_of frame) rows) i d)
  signal_row_at e d proper =
      let row : Row = get_or (filter (is_signal_row_of frame) rows) i d in
      let is : get_or pages i e ≡ key_of row = ap (λ (ps : List PageKey). get_or ps i e) listed ∙ get_or-map key_of (filter (is_signal_row_of frame) rows) i d e within_filter in
      let contained : Contains rows row = All-filter (is_signal_row_of frame) (Contains rows) rows (All-contains_itself rows) i d within_filter in
      ap (λ (page : PageKey). find (is_of page) rows) is ∙ find-contained (is_of (key_of row)) rows row (one_of_page (key_of row) rows proper.one_row) contained (is_of-own row)

  -- each page listed has a row
  pub listed_has_row : (e : PageKey) → IsProper rows → None ≡ find (is_of (get_or pages i e)) rows → ⊥
  listed_has_row e proper none = none-some _ (none ∙ signal_row_at e (at_place (filter (is_signal_row_of frame) rows) i within_filter) proper)
