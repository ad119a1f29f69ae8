-- Pages of rows, and when two are one.
use Rattle.std.proofs.Common.{◌≡◌, ℕ, suc, Bool, true, false, ◌&&◌, eqb, List, [], ◌∷◌, ◌++◌, length, get_or, find, None, refl, sym, ap, ◌∙◌, inl, inr, arith}
use Rattle.std.specs.Ordering.{nat_cmp, is_eq, ordering_then}
use Rattle.std.specs.Cmp.{nat_cmp_is}
use Rattle.std.specs.BTreeMap.{is_at}
use Rattle.std.specs.declared.cmp.Ordering.{Ordering}
use Rattle.std.specs.declared.cmp.Ordering.TheVariants.{Less, Equal, Greater}
use Rattle.std.proofs.Math.Seq.{get_or-append_seam}
use Rattle.std.proofs.lemmas.Bool.{and_from, and_parts, cases_eq, cases_order, eq-eqb, eqb-true, ne_eqb}
use Rattle.std.proofs.lemmas.List.{length-append}
use Rattle.std.proofs.lemmas.List.Elements.{recursion_from_All}
use Rattle.phys_groups.specs.declared.rows.Row.{Row}
use Rattle.phys_groups.specs.Translation.{is_row_of}
use Rattle.row_table.specs.declared.pages.PageKey.{PageKey}
use Rattle.row_table.specs.Pages.{is_of, key_of, page_cmp}
use Rattle.row_table.specs.Stamps.{HaveOneRow}
use Rattle.row_table.proofs.OnlyOne.{AtMostOne}

-- two numbers compare as equal where they are
pub equal_numbers : (a b : ℕ) → is_eq (nat_cmp a b) ≡ eqb a b
equal_numbers a b =
    elim (cases_order a b) [
      | inl e ↦ rw (← nat_cmp_is a b Equal e, eq-eqb a b e) refl
      | inr h ↦ elim h [
        | inl lt ↦ rw (← nat_cmp_is a b Less lt, ne_eqb a b (omega arith)) refl
        | inr gt ↦ rw (← nat_cmp_is a b Greater gt, ne_eqb a b (omega arith)) refl
      ]
    ]

equal_then : (a b : Ordering) → is_eq (ordering_then a b) ≡ (is_eq a && is_eq b)
equal_then Less b = refl
equal_then Equal b = refl
equal_then Greater b = refl

-- two pages compare as equal where space and number are
pub same_page : (a b : PageKey) → is_at (page_cmp a) b ≡ (eqb a.space b.space && eqb a.vpn b.vpn)
same_page a b = equal_then (nat_cmp a.space b.space) (nat_cmp a.vpn b.vpn) ∙ rw (equal_numbers a.space b.space, equal_numbers a.vpn b.vpn) refl

-- a row is of its own page
pub is_of-own : (row : Row) → is_of (key_of row) row ≡ true
is_of-own row = and_from (eqb row.space.0 row.space.0) (eqb row.vpn.0 row.vpn.0) (eq-eqb row.space.0 row.space.0 refl) (eq-eqb row.vpn.0 row.vpn.0 refl)

-- a row of the page is of another page where the two are one
pub is_of-same : (page other : PageKey) (row : Row) → is_of page row ≡ true → is_of other row ≡ is_at (page_cmp page) other
is_of-same page other row h =
    let both = and_parts (eqb row.space.0 page.space) (eqb row.vpn.0 page.vpn) h in
    ap (λ (n : ℕ). eqb n other.space && eqb row.vpn.0 other.vpn) (eqb-true _ _ both.0)
    ∙ ap (λ (n : ℕ). eqb page.space other.space && eqb n other.vpn) (eqb-true _ _ both.1)
    ∙ sym (same_page page other)

-- where two pages are one, so are their rows
pub is_of-one : (page other : PageKey) (row : Row) → is_at (page_cmp page) other ≡ true → is_of other row ≡ is_of page row
is_of-one page other row h =
    let both = and_parts (eqb page.space other.space) (eqb page.vpn other.vpn) (sym (same_page page other) ∙ h) in
    ap (λ (n : ℕ). eqb row.space.0 n && eqb row.vpn.0 other.vpn) (sym (eqb-true _ _ both.0))
    ∙ ap (λ (n : ℕ). eqb row.space.0 page.space && eqb row.vpn.0 n) (sym (eqb-true _ _ both.1))

-- the page of a row that is of the page
pub is_of-row : (page : PageKey) (row other : Row) → is_of page row ≡ true → is_of page other ≡ is_row_of row.space row.vpn.0 other
is_of-row page row other h =
    let both = and_parts (eqb row.space.0 page.space) (eqb row.vpn.0 page.vpn) h in
    ap (λ (n : ℕ). eqb other.space.0 n && eqb other.vpn.0 page.vpn) (sym (eqb-true _ _ both.0))
    ∙ ap (λ (n : ℕ). eqb other.space.0 row.space.0 && eqb other.vpn.0 n) (sym (eqb-true _ _ both.1))

eqb_comm : (a b : ℕ) → eqb a b ≡ eqb b a
eqb_comm a b = elim (cases_eq a b) [ inl e ↦ eq-eqb a b e ∙ sym (eq-eqb b a (sym e)) | inr ne ↦ ne_eqb a b ne ∙ sym (ne_eqb b a (λ e. ne (sym e))) ]

-- of two rows, one has the page of the other where the other has that of the one
pub is_row_of-flip : (a b : Row) → is_row_of a.space a.vpn.0 b ≡ is_of (key_of b) a
is_row_of-flip a b =
    ap (λ (t : Bool). t && eqb b.vpn.0 a.vpn.0) (eqb_comm b.space.0 a.space.0)
    ∙ ap (λ (t : Bool). eqb a.space.0 b.space.0 && t) (eqb_comm b.vpn.0 a.vpn.0)

-- where no page has two rows, at most one is of the page
pub one_of_page : (page : PageKey) (rows : List Row) → HaveOneRow rows → AtMostOne (is_of page) rows
one_of_page page [] one = tt
one_of_page page (row ∷ rows) one = (
  λ here. recursion_from_All (λ other. is_of page other ≡ false) rows (λ k d below. is_of-row page row (get_or rows k d) here ∙ one 0 (suc k) d (omega arith) (omega arith)),
  one_of_page page rows (λ i j d below within. one (suc i) (suc j) d (omega arith) (omega arith)),
)

-- rows before one are of other pages
pub none_before : (front : List Row) (row : Row) (back : List Row) → HaveOneRow (front ++ row ∷ back) → find (is_of (key_of row)) front ≡ None
none_before [] row back one = refl
none_before (first ∷ front) row back one =
    let fails : is_of (key_of row) first ≡ false =
    sym (is_row_of-flip first row) ∙ ap (is_row_of first.space first.vpn.0) (sym (get_or-append_seam front row back row)) ∙ one 0 (suc (length front)) row (omega arith) (omega (arith, length-append front (row ∷ back))) in
    rw fails (none_before front row back (λ i j d below within. one (suc i) (suc j) d (omega arith) (omega arith)))

-- the page that a row is of is its own
pub page_is : (page : PageKey) (row : Row) → is_of page row ≡ true → page ≡ key_of row
page_is page row h =
    let both = and_parts (eqb row.space.0 page.space) (eqb row.vpn.0 page.vpn) h in
    ap (λ (n : ℕ). record { space = n; vpn = page.vpn }) (sym (eqb-true _ _ both.0)) ∙ ap (λ (n : ℕ). record { space = row.space.0; vpn = n }) (sym (eqb-true _ _ both.1))
