-- No page has two rows and no frame more than four signal rows, as rows come, go and change.
use Rattle.std.proofs.Common.{◌≡◌, ℕ, ◌+◌, ◌<◌, ◌≤◌, Bool, true, false, not, ◌&&◌, ◌||◌, cond, eqb, List, [], ◌∷◌, ◌++◌, length, get_or, map, filter, count_by, is_some, refl, sym, ap, ◌∙◌, subst, arith}
use Rattle.std.proofs.lemmas.Bool.{and_parts, eqb-true}
use Rattle.std.proofs.lemmas.List.{get_or-map, length-map}
use Rattle.std.proofs.lemmas.List.Elements.{All-from_recursion}
use Rattle.std.proofs.lemmas.List.Filters.{sum_by-filter_both}
use Rattle.std.proofs.lemmas.List.Kept.{AllPairs-filter}
use Rattle.std.proofs.lemmas.List.Quantifiers.{all_pairs_push}
use Rattle.std.proofs.lemmas.List.Sums.{length-filter, sum_by_push}
use Rattle.cache_ident.specs.declared.names.Frame.{Frame}
use Rattle.cache_ident.specs.declared.names.SpaceNo.{SpaceNo}
use Rattle.phys_groups.specs.declared.rows.Row.{Row}
use Rattle.signal_pages.specs.Signals.{is_signal_row_of}
use Rattle.phys_groups.specs.Translation.{is_row_of}
use Rattle.row_table.specs.declared.pages.PageKey.{PageKey}
use Rattle.row_table.specs.Pages.{is_of, key_of}
use Rattle.phys_groups.specs.Rows.{marked}
use Rattle.row_table.specs.Rows.{IsProper}
use Rattle.row_table.specs.Stamps.{HaveOneRow}
use Rattle.row_table.proofs.OnlyOne.{NonePass}
use Rattle.row_table.proofs.PageLemmas.{is_row_of-flip}
use Rattle.row_table.proofs.SignalLemmas.{listed-map}

pub HaveOneRow-nil : HaveOneRow []
HaveOneRow-nil = λ i j d lt within. absurd (omega arith)

pub HaveOneRow-push : (rows : List Row) (row : Row) → HaveOneRow rows → NonePass (is_of (key_of row)) rows → HaveOneRow (rows ++ row ∷ [])
HaveOneRow-push rows row one none =
    all_pairs_push (λ a b. is_row_of a.space a.vpn.0 b ≡ false) rows row one
    (λ k d lt. is_row_of-flip (get_or rows k d) row ∙ All-from_recursion (λ other. is_of (key_of row) other ≡ false) rows none k d lt)

pub HaveOneRow-filter : (p : Row → Bool) (rows : List Row) → HaveOneRow rows → HaveOneRow (filter p rows)
HaveOneRow-filter p rows one = AllPairs-filter (λ a b. is_row_of a.space a.vpn.0 b ≡ false) p rows one

-- a count with one more, or not
count_more : (p : Row → Bool) (rows : List Row) (row : Row) → count_by p (rows ++ row ∷ []) ≡ count_by p rows + cond (p row) 1 0
count_more p rows row = sum_by_push (λ other. cond (p other) 1 0) rows row

few_more : (b : Bool) (n : ℕ) → n ≤ 4 → (b ≡ true → n < 4) → n + cond b 1 0 ≤ 4
few_more true n le few = omega (arith, few refl)
few_more false n le few = omega arith

pub IsProper-nil : IsProper []
IsProper-nil = record { one_row = HaveOneRow-nil; few_signal_rows = λ frame. omega arith }

pub IsProper-push : (rows : List Row) (row : Row) → IsProper rows → NonePass (is_of (key_of row)) rows
    → (is_some row.receiver ≡ true → count_by (is_signal_row_of row.frame) rows < 4) → IsProper (rows ++ row ∷ [])
IsProper-push rows row proper none few = record {
  one_row = HaveOneRow-push rows row proper.one_row none;
  few_signal_rows = λ frame.
      rw (count_more (is_signal_row_of frame) rows row)
      (few_more (is_signal_row_of frame row) (count_by (is_signal_row_of frame) rows) (proper.few_signal_rows frame)
      (λ h. let both = and_parts (eqb row.frame.0 frame.0) (is_some row.receiver) h in
      subst (λ (n : ℕ). count_by (is_signal_row_of (record { 0 = n })) rows < 4) (eqb-true row.frame.0 frame.0 both.0) (few both.1)));
}

pub IsProper-filter : (p : Row → Bool) (rows : List Row) → IsProper rows → IsProper (filter p rows)
IsProper-filter p rows proper = record {
  one_row = HaveOneRow-filter p rows proper.one_row;
  few_signal_rows = λ frame. omega (arith, proper.few_signal_rows frame, sum_by-filter_both p (λ row. not (p row)) (λ row. refl) (λ row. cond (is_signal_row_of frame row) 1 0) rows);
}

-- a mark keeps page, frame and receiver
pub record Keeps (f : Row → Row) : Type 0 where
  pub page : (row : Row) → key_of (f row) ≡ key_of row
  pub frame : (row : Row) → (f row).frame ≡ row.frame
  pub receiver : (row : Row) → (f row).receiver ≡ row.receiver

pub is_signal_row_of-kept : (f : Row → Row) → Keeps f → (frame : Frame) (row : Row) → is_signal_row_of frame (f row) ≡ is_signal_row_of frame row
is_signal_row_of-kept f keeps frame row =
    ap (λ (own : Frame). eqb own.0 frame.0 && is_some (f row).receiver) (keeps.frame row)
    ∙ ap (λ o. eqb row.frame.0 frame.0 && is_some o) (keeps.receiver row)

pub is_of-kept : (f : Row → Row) → Keeps f → (page : PageKey) (row : Row) → is_of page (f row) ≡ is_of page row
is_of-kept f keeps page row = ap (λ (own : PageKey). eqb own.space page.space && eqb own.vpn page.vpn) (keeps.page row)

one_row-kept : (f : Row → Row) → Keeps f → (a b : Row) → is_row_of (f a).space (f a).vpn.0 (f b) ≡ is_row_of a.space a.vpn.0 b
one_row-kept f keeps a b =
    ap (λ (own : PageKey). eqb own.space (f a).space.0 && eqb own.vpn (f a).vpn.0) (keeps.page b)
    ∙ ap (λ (own : PageKey). eqb b.space.0 own.space && eqb b.vpn.0 own.vpn) (keeps.page a)

count_kept : (f : Row → Row) → Keeps f → (frame : Frame) (rows : List Row) → count_by (is_signal_row_of frame) (map f rows) ≡ count_by (is_signal_row_of frame) rows
count_kept f keeps frame rows =
    let p : Row → Bool = is_signal_row_of frame in
    sym (length-filter p (map f rows))
    ∙ sym (length-map (filter p (map f rows)) key_of)
    ∙ ap length (listed-map key_of p f (is_signal_row_of-kept f keeps frame) keeps.page rows)
    ∙ length-map (filter p rows) key_of
    ∙ length-filter p rows

pub HaveOneRow-map : (f : Row → Row) → Keeps f → (rows : List Row) → HaveOneRow rows → HaveOneRow (map f rows)
HaveOneRow-map f keeps rows one = λ i j d lt within.
    let inside : j < length rows = omega (arith, length-map rows f) in
    let first : get_or (map f rows) i d ≡ f (get_or rows i d) = get_or-map f rows i d d (omega arith) in
    let second : get_or (map f rows) j d ≡ f (get_or rows j d) = get_or-map f rows j d d inside in
    ap (λ (a : Row). is_row_of a.space a.vpn.0 (get_or (map f rows) j d)) first
    ∙ ap (λ (b : Row). is_row_of (f (get_or rows i d)).space (f (get_or rows i d)).vpn.0 b) second
    ∙ one_row-kept f keeps (get_or rows i d) (get_or rows j d)
    ∙ one i j d lt inside

pub IsProper-map : (f : Row → Row) → Keeps f → (rows : List Row) → IsProper rows → IsProper (map f rows)
IsProper-map f keeps rows proper = record {
  one_row = HaveOneRow-map f keeps rows proper.one_row;
  few_signal_rows = λ frame. rw (count_kept f keeps frame rows) (proper.few_signal_rows frame);
}

-- a row once it is gone through, if it is the one
abbrev pub mark_if : Bool → Bool → Row → Row
mark_if here written row = cond here (record row { referenced = true; modified = row.modified || written }) row

page_marked : (here written : Bool) (row : Row) → key_of (mark_if here written row) ≡ key_of row
page_marked true written row = refl
page_marked false written row = refl

frame_marked : (here written : Bool) (row : Row) → (mark_if here written row).frame ≡ row.frame
frame_marked true written row = refl
frame_marked false written row = refl

receiver_marked : (here written : Bool) (row : Row) → (mark_if here written row).receiver ≡ row.receiver
receiver_marked true written row = refl
receiver_marked false written row = refl

pub Keeps-marked : (space : SpaceNo) (vpn : ℕ) (written : Bool) → Keeps (marked space vpn written)
Keeps-marked space vpn written = record {
  page = λ row. page_marked (is_row_of space vpn row) written row;
  frame = λ row. frame_marked (is_row_of space vpn row) written row;
  receiver = λ row. receiver_marked (is_row_of space vpn row) written row;
}
