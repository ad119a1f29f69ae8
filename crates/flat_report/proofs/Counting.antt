-- Counts of rows, a row more at a time.
use Rattle.std.proofs.Common.{◌≡◌, ℕ, ◌+◌, ◌<◌, ◌≤◌, ◌^◌, Bool, true, false, cond, List, [], ◌∷◌, ◌++◌, length, length-append, get_or, set, sym, ap, subst, refl, add-zero, ◌∙◌, append-nil, append_assoc, inl, inr, arith}
use Rattle.std.specs.Prelude.{count_by}
use Rattle.std.proofs.lemmas.Bool.{cases_eq, eq-eqb, ne_eqb}
use Rattle.std.proofs.lemmas.List.{get_or-set_other, get_or-set_same, length-set}
use Rattle.std.proofs.lemmas.List.Sums.{count_by-le-length, sum_by_push}
use Rattle.phys_groups.specs.declared.rows.Row.{Row}
use Rattle.flat_report.specs.declared.counts.RowCounts.{RowCounts}
use Rattle.report_text.specs.Reports.{is_modified_of, is_of, is_referenced_of}
use Rattle.flat_report.specs.Counts.{counted, with_row, AreCounts, CountsFew}

-- one row more
count_by-more : (p : Row → Bool) (rows : List Row) (row : Row) → count_by p (rows ++ row ∷ []) ≡ count_by p rows + cond (p row) 1 0
count_by-more p rows row = sum_by_push (λ x. cond (p x) 1 0) rows row

-- a row of the space is counted
counted_here : (rows : List Row) (row : Row) (space : ℕ) → row.space.0 ≡ space → counted (rows ++ row ∷ []) space ≡ with_row row (counted rows space)
counted_here rows row space e =
    let is : is_of space row ≡ true = eq-eqb row.space.0 space e in
    rw (count_by-more (is_of space) rows row, count_by-more (is_referenced_of space) rows row, count_by-more (is_modified_of space) rows row, is) refl

-- a row of another space isn't
counted_elsewhere : (rows : List Row) (row : Row) (space : ℕ) → (row.space.0 ≡ space → ⊥) → counted (rows ++ row ∷ []) space ≡ counted rows space
counted_elsewhere rows row space ne =
    let other : is_of space row ≡ false = ne_eqb row.space.0 space ne in
    rw (count_by-more (is_of space) rows row, count_by-more (is_referenced_of space) rows row, count_by-more (is_modified_of space) rows row, other)
    (rw (add-zero (count_by (is_of space) rows), add-zero (count_by (is_referenced_of space) rows), add-zero (count_by (is_modified_of space) rows)) refl)

pub counted_more : (rows : List Row) (spaces : ℕ) (counts : List RowCounts) (row : Row) (own : RowCounts) → AreCounts rows spaces counts
    → row.space.0 < length counts → own ≡ get_or counts row.space.0 own → AreCounts (rows ++ row ∷ []) spaces (set counts row.space.0 (with_row row own))
counted_more rows spaces counts row own are within is = record {
  len = length-set counts row.space.0 (with_row row own) ∙ are.len;
  each = λ space d lt. elim (cases_eq row.space.0 space) [
    | inl e ↦
        ap (λ i. get_or (set counts row.space.0 (with_row row own)) i d) (sym e) ∙ get_or-set_same counts row.space.0 (with_row row own) d within
        ∙ ap (with_row row) (is ∙ ap (λ i. get_or counts i own) e ∙ are.each space own lt)
        ∙ sym (counted_here rows row space e)
    | inr ne ↦
        get_or-set_other counts row.space.0 space (with_row row own) d (λ e. ne (sym e))
        ∙ are.each space d lt
        ∙ sym (counted_elsewhere rows row space ne)
  ];
}

-- a row of a space that there isn't changes nothing
pub counted_nowhere : (rows : List Row) (spaces : ℕ) (counts : List RowCounts) (row : Row) → AreCounts rows spaces counts → length counts ≤ row.space.0 → AreCounts (rows ++ row ∷ []) spaces counts
counted_nowhere rows spaces counts row are past = record {
  len = are.len;
  each = λ space d lt. are.each space d lt ∙ sym (counted_elsewhere rows row space (λ e. absurd (omega (arith, e, are.len, past, lt))));
}

-- no count is higher than there are rows
pub record IsFew (own : RowCounts) : Type 0 where
  pub rows : own.rows < 2 ^ 63
  pub referenced : own.referenced < 2 ^ 63
  pub modified : own.modified < 2 ^ 63

pub each_few : (counts : List RowCounts) (space : ℕ) (own : RowCounts) → CountsFew counts → space < length counts → own ≡ get_or counts space own → IsFew own
each_few counts space own (rows, spaces, are, few) within is =
    let lt : space < spaces = omega (arith, within, are.len) in
    subst IsFew (sym (is ∙ are.each space own lt)) (record {
      rows = omega (arith, count_by-le-length (is_of space) rows, few);
      referenced = omega (arith, count_by-le-length (is_referenced_of space) rows, few);
      modified = omega (arith, count_by-le-length (is_modified_of space) rows, few);
    })

-- ---- a walk over rows

-- what is counted of the rows that came, with those that are left
pub record IsTallied (rows left : List Row) (spaces : ℕ) (counts : List RowCounts) : Type 0 where
  pub gone : List Row
  pub split : rows ≡ gone ++ left
  pub are : AreCounts gone spaces counts

pub none_gone : (rows : List Row) (spaces : ℕ) (counts : List RowCounts) → AreCounts [] spaces counts → IsTallied rows rows spaces counts
none_gone rows spaces counts are = record { gone = []; split = refl; are = are }

pub one_gone : (rows left next : List Row) (spaces : ℕ) (old new : List RowCounts) (row : Row) → left ≡ row ∷ next → IsTallied rows left spaces old
    → ((gone : List Row) (n : ℕ) → AreCounts gone n old → AreCounts (gone ++ row ∷ []) n new) → IsTallied rows next spaces new
one_gone rows left next spaces old new row is so_far more = record {
  gone = so_far.gone ++ row ∷ [];
  split = so_far.split ∙ ap (λ (l : List Row). so_far.gone ++ l) is ∙ sym (append_assoc so_far.gone (row ∷ []) next);
  are = more so_far.gone spaces so_far.are;
}

pub all_gone : (rows left : List Row) (spaces : ℕ) (counts : List RowCounts) → left ≡ [] → IsTallied rows left spaces counts → AreCounts rows spaces counts
all_gone rows left spaces counts none so_far =
    subst (λ (l : List Row). AreCounts l spaces counts) (sym (so_far.split ∙ ap (λ (l : List Row). so_far.gone ++ l) none ∙ append-nil so_far.gone)) so_far.are

pub still_few : (rows left : List Row) (spaces : ℕ) (counts : List RowCounts) → length rows < 2 ^ 63 → IsTallied rows left spaces counts → CountsFew counts
still_few rows left spaces counts few so_far =
    (so_far.gone, spaces, so_far.are, omega (arith, few, ap length so_far.split, length-append so_far.gone left))
