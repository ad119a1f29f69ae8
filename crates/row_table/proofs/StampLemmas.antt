-- Rows with their stamps, as rows come, go and change.
use Rattle.std.proofs.Common.{◌≡◌, ℕ, suc, ◌+◌, ◌<◌, Bool, true, false, not, cond, List, [], ◌∷◌, ◌++◌, length, map, filter, find, Option, Some, None, refl, sym, ap, ◌∙◌, subst, inl, inr, arith}
use Rattle.std.specs.List.{AllByRecursion}
use Rattle.std.specs.Option.{IfSome, IsSome}
use Rattle.std.specs.List.Sorted.{IsStrictlySortedBy}
use Rattle.std.specs.Ordering.{nat_cmp, is_eq, match_ordering}
use Rattle.std.specs.declared.cmp.Ordering.{Ordering}
use Rattle.std.specs.declared.cmp.Ordering.TheVariants.{Less, Greater}
use Rattle.std.specs.Cmp.{nat_cmp_is}
use Rattle.std.proofs.lemmas.Cmp.{ranked}
use Rattle.std.specs.BTreeMap.{BTreeMap, get, insert_entry, is_at}
use Rattle.std.specs.Map.{keys_of, values_of, lookup, remove_entry, set_value}
use Rattle.std.proofs.lemmas.Bool.{false≢true, both_ways, cases_Bool, eq-eqb, ne_eqb}
use Rattle.std.proofs.lemmas.List.{append_assoc, length_push, map-append, same_from_push}
use Rattle.std.proofs.lemmas.List.Elements.{All-push}
use Rattle.std.proofs.lemmas.Map.Keys.{sorted_head, sorted_tail}
use Rattle.std.proofs.lemmas.Option.{none-some, same_Some}
use Rattle.phys_groups.specs.declared.rows.Row.{Row}
use Rattle.row_table.specs.declared.pages.PageKey.{PageKey}
use Rattle.row_table.specs.Pages.{is_of, key_of, page_cmp}
use Rattle.row_table.specs.Rows.{marked_on}
use Rattle.row_table.specs.Stamps.{stamp_of, AreBelow, AreStamped, HaveOneRow}
use Rattle.row_table.proofs.OnlyOne.{AtMostOne, NonePass, find-passes, map-none, none_agree, none_from_find}
use Rattle.row_table.proofs.PageLemmas.{equal_numbers, is_of-one, is_of-own, is_of-same, one_of_page}
use Rattle.row_table.proofs.ProperLemmas.{HaveOneRow-filter, HaveOneRow-map, HaveOneRow-push, Keeps-marked, is_of-kept, mark_if}

module _ (p : Row → Bool) where
  stamp_of-none : (entries : List (ℕ × Row)) → NonePass p (values_of entries) → stamp_of p entries ≡ None
  stamp_of-none [] none = refl
  stamp_of-none (entry ∷ entries) none = rw none.0 (stamp_of-none entries none.1)

  pub none_from_stamp : (entries : List (ℕ × Row)) → stamp_of p entries ≡ None → NonePass p (values_of entries)
  none_from_stamp [] e = tt
  none_from_stamp (entry ∷ entries) e = elim (cases_Bool (p entry.1)) [
    | inl h ↦ absurd (none-some entry.0 (sym (rw h at e)))
    | inr h ↦ (h, none_from_stamp entries (rw h at e))
  ]

  -- the stamp that is found is one of those that are all above a number
  stamp_above : (n stamp : ℕ) (entries : List (ℕ × Row)) → AllByRecursion (λ other. nat_cmp n other ≡ Less) (keys_of entries) → stamp_of p entries ≡ Some stamp → n < stamp
  stamp_above n stamp [] above e = absurd (none-some stamp e)
  stamp_above n stamp (entry ∷ entries) above e = elim (cases_Bool (p entry.1)) [
    | inl h ↦ rw (← same_Some entry.0 stamp (rw h at e)) (ranked n entry.0 Less (sym above.0))
    | inr h ↦ stamp_above n stamp entries above.1 (rw h at e)
  ]

-- the stamps that pass the one test are those of the rows that pass the other
abbrev Agree : (ℕ → Bool) → (Row → Bool) → List (ℕ × Row) → Type 0
Agree test p entries = AllByRecursion (λ entry. test entry.0 ≡ p entry.1) entries

module _ (p : Row → Bool) where
  agree_above : (stamp : ℕ) (entries : List (ℕ × Row)) → AllByRecursion (λ other. nat_cmp stamp other ≡ Less) (keys_of entries) → NonePass p (values_of entries)
      → Agree (is_at (nat_cmp stamp)) p entries
  agree_above stamp [] above none = tt
  agree_above stamp (entry ∷ entries) above none = (ap is_eq above.0 ∙ sym none.0, agree_above stamp entries above.1 none.1)

  -- the stamp that is found is that of the row that passes, and no other's
  agree : (stamp : ℕ) (entries : List (ℕ × Row)) → IsStrictlySortedBy nat_cmp (keys_of entries) → AtMostOne p (values_of entries) → stamp_of p entries ≡ Some stamp
      → Agree (is_at (nat_cmp stamp)) p entries
  agree stamp [] rising one e = tt
  agree stamp (entry ∷ entries) rising one e =
      let above = sorted_head nat_cmp entry.0 (keys_of entries) rising in
      elim (cases_Bool (p entry.1)) [
        | inl h ↦
            let same : entry.0 ≡ stamp = same_Some entry.0 stamp (rw h at e) in
            subst (λ (n : ℕ). Agree (is_at (nat_cmp n)) p (entry ∷ entries)) same (equal_numbers entry.0 entry.0 ∙ eq-eqb entry.0 entry.0 refl ∙ sym h, agree_above entry.0 entries above (one.0 h))
        | inr h ↦
            let later : stamp_of p entries ≡ Some stamp = rw h at e in
            let below : entry.0 < stamp = stamp_above p entry.0 stamp entries above later in
            (equal_numbers stamp entry.0 ∙ ne_eqb stamp entry.0 (omega arith) ∙ sym h, agree stamp entries (sorted_tail nat_cmp entry.0 (keys_of entries) rising) one.1 later)
      ]

module _ (test : ℕ → Bool) (p : Row → Bool) where
  lookup-agree : (entries : List (ℕ × Row)) → Agree test p entries → lookup test entries ≡ find p (values_of entries)
  lookup-agree [] same = refl
  lookup-agree (entry ∷ entries) same = rw same.0 (ap (λ (o : Option Row). cond (p entry.1) (Some entry.1) o) (lookup-agree entries same.1))

  remove_entry-none : (entries : List (ℕ × Row)) → NonePass p (values_of entries) → values_of entries ≡ filter (λ row. not (p row)) (values_of entries)
  remove_entry-none [] none = refl
  remove_entry-none (entry ∷ entries) none = rw none.0 (ap (λ (rows : List Row). entry.1 ∷ rows) (remove_entry-none entries none.1))

  values_of-remove_entry : (entries : List (ℕ × Row)) → Agree test p entries → AtMostOne p (values_of entries)
      → values_of (remove_entry test entries) ≡ filter (λ row. not (p row)) (values_of entries)
  values_of-remove_entry [] same one = refl
  values_of-remove_entry (entry ∷ entries) same one = elim (cases_Bool (p entry.1)) [
    | inl h ↦ rw (same.0, h) (remove_entry-none entries (one.0 h))
    | inr h ↦ rw (same.0, h) (ap (λ (rows : List Row). entry.1 ∷ rows) (values_of-remove_entry entries same.1 one.1))
  ]

  values_of-set_value : (f : Row → Row) → ((row : Row) → p row ≡ false → f row ≡ row) → (entries : List (ℕ × Row)) (row : Row) → Agree test p entries
      → AtMostOne p (values_of entries) → find p (values_of entries) ≡ Some row → values_of (set_value test entries (f row)) ≡ map f (values_of entries)
  values_of-set_value f others [] row same one found = refl
  values_of-set_value f others (entry ∷ entries) row same one found = elim (cases_Bool (p entry.1)) [
    | inl h ↦
        let is : entry.1 ≡ row = same_Some entry.1 row (rw h at found) in
        rw (same.0, h) (ap (λ (own : Row). f own ∷ values_of entries) (sym is) ∙ ap (λ (rows : List Row). f entry.1 ∷ rows) (sym (map-none p f others (values_of entries) (one.0 h))))
    | inr h ↦
        rw (same.0, h) (ap (λ (own : Row). own ∷ values_of (set_value test entries (f row))) (sym (others entry.1 h))
        ∙ ap (λ (rows : List Row). f entry.1 ∷ rows) (values_of-set_value f others entries row same.1 one.1 (rw h at found)))
  ]

  -- one that fails is taken out
  stamp_of-remove_entry : (q : Row → Bool) → ((row : Row) → p row ≡ true → q row ≡ false) → (entries : List (ℕ × Row)) → Agree test p entries
      → stamp_of q (remove_entry test entries) ≡ stamp_of q entries
  stamp_of-remove_entry q fails [] same = refl
  stamp_of-remove_entry q fails (entry ∷ entries) same = elim (cases_Bool (p entry.1)) [
    | inl h ↦ rw (same.0, h, fails entry.1 h) refl
    | inr h ↦ rw (same.0, h) (ap (λ (o : Option ℕ). cond (q entry.1) (Some entry.0) o) (stamp_of-remove_entry q fails entries same.1))
  ]

  -- one is set to another that passes where it does
  stamp_of-set_value : (q : Row → Bool) (entries : List (ℕ × Row)) (row new : Row) → Agree test p entries → find p (values_of entries) ≡ Some row → q new ≡ q row
      → stamp_of q (set_value test entries new) ≡ stamp_of q entries
  stamp_of-set_value q [] row new same found passes = refl
  stamp_of-set_value q (entry ∷ entries) row new same found passes = elim (cases_Bool (p entry.1)) [
    | inl h ↦
        let is : entry.1 ≡ row = same_Some entry.1 row (rw h at found) in
        rw (same.0, h) (ap (λ (t : Bool). cond t (Some entry.0) (stamp_of q entries)) (passes ∙ ap q (sym is)))
    | inr h ↦ rw (same.0, h) (ap (λ (o : Option ℕ). cond (q entry.1) (Some entry.0) o) (stamp_of-set_value q entries row new same.1 (rw h at found) passes))
  ]

-- a stamp above all others goes last
pub insert_entry-last : (stamp : ℕ) (row : Row) (entries : List (ℕ × Row)) → AreBelow stamp (keys_of entries) → insert_entry nat_cmp entries stamp row ≡ entries ++ (stamp, row) ∷ []
insert_entry-last stamp row [] below = refl
insert_entry-last stamp row (entry ∷ entries) below =
    let lt : entry.0 < stamp = below 0 0 (omega arith) in
    ap (λ (o : Ordering). match_ordering o ((stamp, row) ∷ entry ∷ entries) ((entry.0, row) ∷ entries) (entry ∷ insert_entry nat_cmp entries stamp row)) (sym (nat_cmp_is stamp entry.0 Greater lt))
    ∙ ap (λ (rest : List (ℕ × Row)). entry ∷ rest) (insert_entry-last stamp row entries (λ k d within. below (suc k) d (omega arith)))

module _ (entries : List (ℕ × Row)) (stamps : BTreeMap PageKey ℕ) (stamped : AreStamped entries stamps) where
  -- stamps that are as they were
  pub AreStamped-same : (new : BTreeMap PageKey ℕ) → new.entries ≡ stamps.entries → AreStamped entries new
  AreStamped-same new same = record { rising = stamped.rising; one_row = stamped.one_row; found = λ page. rw same (stamped.found page) }

  -- a page without a stamp has no row
  pub no_row : (page : PageKey) → get page_cmp stamps page ≡ None → NonePass (is_of page) (values_of entries)
  no_row page e = none_from_stamp (is_of page) entries (sym (stamped.found page) ∙ e)

  module _ (page : PageKey) (stamp : ℕ) (has : get page_cmp stamps page ≡ Some stamp) where
    one : AtMostOne (is_of page) (values_of entries)
    one = one_of_page page (values_of entries) stamped.one_row

    same : Agree (is_at (nat_cmp stamp)) (is_of page) entries
    same = agree (is_of page) stamp entries stamped.rising one (sym (stamped.found page) ∙ has)

    -- the row with the page's stamp is that of the page
    pub row_at : lookup (is_at (nat_cmp stamp)) entries ≡ find (is_of page) (values_of entries)
    row_at = lookup-agree (is_at (nat_cmp stamp)) (is_of page) entries same

    pub values_without : values_of (remove_entry (is_at (nat_cmp stamp)) entries) ≡ filter (λ row. not (is_of page row)) (values_of entries)
    values_without = values_of-remove_entry (is_at (nat_cmp stamp)) (is_of page) entries same one

    others : (other : PageKey) → stamp_of (is_of other) (remove_entry (is_at (nat_cmp stamp)) entries) ≡ cond (is_at (page_cmp page) other) None (stamp_of (is_of other) entries)
    others other = elim (cases_Bool (is_at (page_cmp page) other)) [
      | inl h ↦ rw h (stamp_of-none (is_of other) (remove_entry (is_at (nat_cmp stamp)) entries) (subst (NonePass (is_of other)) (sym values_without) (gone other h (values_of entries))))
      | inr h ↦ rw h (stamp_of-remove_entry (is_at (nat_cmp stamp)) (is_of page) (is_of other) (λ row is. is_of-same page other row is ∙ h) entries same)
    ]
      where
        gone : (other : PageKey) → is_at (page_cmp page) other ≡ true → (rows : List Row) → NonePass (is_of other) (filter (λ row. not (is_of page row)) rows)
        gone other h [] = tt
        gone other h (row ∷ rows) = elim (cases_Bool (is_of page row)) [
          | inl is ↦ rw is (gone other h rows)
          | inr is ↦ rw is (is_of-one page other row h ∙ is, gone other h rows)
        ]

    -- the row of the page is taken out
    pub AreStamped-remove : (new : BTreeMap PageKey ℕ) → IsStrictlySortedBy nat_cmp (keys_of (remove_entry (is_at (nat_cmp stamp)) entries))
        → ((other : PageKey) → get page_cmp new other ≡ cond (is_at (page_cmp page) other) None (get page_cmp stamps other)) → AreStamped (remove_entry (is_at (nat_cmp stamp)) entries) new
    AreStamped-remove new rising updates = record {
      rising = rising;
      one_row = subst HaveOneRow (sym values_without) (HaveOneRow-filter (λ row. not (is_of page row)) (values_of entries) stamped.one_row);
      found = λ other. updates other ∙ ap (λ (o : Option ℕ). cond (is_at (page_cmp page) other) None o) (stamped.found other) ∙ sym (others other);
    }

    module _ (row : Row) (reads : find (is_of page) (values_of entries) ≡ Some row) (written : Bool) where
      passes : is_of page row ≡ true
      passes = find-passes (is_of page) (values_of entries) row reads

      is_marked : mark_if true written row ≡ marked_on page written row
      is_marked = ap (λ (b : Bool). mark_if b written row) (sym passes)

      pub values_marked : values_of (set_value (is_at (nat_cmp stamp)) entries (mark_if true written row)) ≡ map (marked_on page written) (values_of entries)
      values_marked =
          ap (λ (new : Row). values_of (set_value (is_at (nat_cmp stamp)) entries new)) is_marked
          ∙ values_of-set_value (is_at (nat_cmp stamp)) (is_of page) (marked_on page written) (λ other fails. ap (λ (b : Bool). mark_if b written other) fails) entries row same one reads

      -- the row of the page is marked
      pub AreStamped-mark : IsStrictlySortedBy nat_cmp (keys_of (set_value (is_at (nat_cmp stamp)) entries (mark_if true written row))) → AreStamped (set_value (is_at (nat_cmp stamp)) entries (mark_if true written row)) stamps
      AreStamped-mark rising =
          let keeps = Keeps-marked (record { 0 = page.space }) page.vpn written in
          record {
            rising = rising;
            one_row = subst HaveOneRow (sym values_marked) (HaveOneRow-map (marked_on page written) keeps (values_of entries) stamped.one_row);
            found = λ other.
                stamped.found other
                ∙ sym (stamp_of-set_value (is_at (nat_cmp stamp)) (is_of page) (is_of other) entries row (mark_if true written row) same reads (ap (is_of other) is_marked ∙ is_of-kept (marked_on page written) keeps other row));
          }

  stamp_of-push : (q : Row → Bool) (row : Row) (stamp : ℕ) (some : List (ℕ × Row)) → (q row ≡ true → NonePass q (values_of some))
      → stamp_of q (some ++ (stamp, row) ∷ []) ≡ cond (q row) (Some stamp) (stamp_of q some)
  stamp_of-push q row stamp [] none = refl
  stamp_of-push q row stamp (entry ∷ some) none = elim (cases_Bool (q row)) [
    | inl h ↦ rw (h, (none h).0) (stamp_of-push q row stamp some (λ _. (none h).1) ∙ ap (λ (t : Bool). cond t (Some stamp) (stamp_of q some)) h)
    | inr h ↦ rw h (ap (λ (o : Option ℕ). cond (q entry.1) (Some entry.0) o) (stamp_of-push q row stamp some (λ t. absurd (both_ways (q row) h t)) ∙ ap (λ (t : Bool). cond t (Some stamp) (stamp_of q some)) h))
  ]

  -- the row of a page that has none is added
  pub AreStamped-push : (row : Row) (stamp : ℕ) (new : BTreeMap PageKey ℕ) → find (is_of (key_of row)) (values_of entries) ≡ None → IsStrictlySortedBy nat_cmp (keys_of (entries ++ (stamp, row) ∷ []))
      → ((other : PageKey) → get page_cmp new other ≡ cond (is_at (page_cmp (key_of row)) other) (Some stamp) (get page_cmp stamps other)) → AreStamped (entries ++ (stamp, row) ∷ []) new
  AreStamped-push row stamp new absent rising updates =
      let none : NonePass (is_of (key_of row)) (values_of entries) = none_from_find (is_of (key_of row)) (values_of entries) absent in
      record {
        rising = rising;
        one_row = subst HaveOneRow (sym (map-append (λ entry. entry.1) entries ((stamp, row) ∷ []))) (HaveOneRow-push (values_of entries) row stamped.one_row none);
        found = λ other.
            let same : is_of other row ≡ is_at (page_cmp (key_of row)) other = is_of-same (key_of row) other row (is_of-own row) in
            updates other
            ∙ ap (λ (o : Option ℕ). cond (is_at (page_cmp (key_of row)) other) (Some stamp) o) (stamped.found other)
            ∙ ap (λ (t : Bool). cond t (Some stamp) (stamp_of (is_of other) entries)) (sym same)
            ∙ sym (stamp_of-push (is_of other) row stamp entries
            (λ is. none_agree (is_of other) (is_of (key_of row)) (λ own. is_of-one (key_of row) other own (sym same ∙ is)) (values_of entries) none));
      }

-- what was pushed last is popped again
pub popped : (entries new : List (ℕ × Row)) (pushed : ℕ × Row) (r : Option (ℕ × Row)) → (0 < length (entries ++ pushed ∷ []) → IsSome r)
    → IfSome r (λ last. entries ++ pushed ∷ [] ≡ new ++ last ∷ []) → new ≡ entries
popped entries new pushed None some removed = absurd (false≢true (some (omega (arith, length_push entries pushed))))
popped entries new pushed (Some last) some removed = sym (same_from_push entries new pushed last removed).0

-- rows that have their places as their stamps get one more
pub numbered_more : (entries more : List (ℕ × Row)) (row : Row) (rows left : List Row) → values_of entries ++ row ∷ left ≡ rows → AreBelow (length entries) (keys_of entries)
    → more ≡ entries ++ (length entries, row) ∷ [] → (values_of more ++ left ≡ rows) × AreBelow (length more) (keys_of more)
numbered_more entries more row rows left whole below is = (
  ap (λ es. values_of es ++ left) is
      ∙ ap (λ own. own ++ left) (map-append (λ entry. entry.1) entries ((length entries, row) ∷ []))
      ∙ append_assoc (values_of entries) (row ∷ []) left
      ∙ whole,
  rw (is, length_push entries (length entries, row), map-append (λ entry. entry.0) entries ((length entries, row) ∷ []))
      (All-push (λ other. other < length entries + 1) (keys_of entries) (length entries) (λ k d within. omega (arith, below k d within)) (omega arith)),
)
