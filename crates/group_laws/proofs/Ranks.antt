-- What depends on something leaves before it, where the rows are as a declaration asks.
use Rattle.std.proofs.Common.{◌≡◌, ℕ, ◌<◌, ◌≤◌, Bool, true, false, List, [], map, Option, Some, None, is_some, slice_get, Contains, filter, refl, ap, sym, ◌∙◌, subst, inl, inr, arith}
use Rattle.std.specs.Prelude.{if◌then◌else◌, ◌==◌, ◌&&◌, option_to_list}
use Rattle.std.specs.Option.{option_map}
use Rattle.std.proofs.lemmas.Bool.{and_parts, and_from, eq-eqb, false≢true}
use Rattle.std.proofs.lemmas.List.Elements.{Contains-append_cases}
use Rattle.cache_ident.specs.declared.names.Name.{Name}
use Rattle.cache_ident.specs.declared.names.Name.TheVariants.{Kernel, Space, Thread, Mapping}
use Rattle.phys_groups.specs.declared.rows.Row.{Row}
use Rattle.phys_groups.specs.Rows.{HasOneRowAPage, row_name}
use Rattle.phys_groups.specs.Translation.{is_row_of, row_of}
use Rattle.journal_laws.specs.signal_pages.specs.Signals.{is_signal_row_of}
use Rattle.journal_laws.specs.writeback_order.specs.Order.{rank_of}
use Rattle.journal_laws.specs.flat_state.specs.declared.records.FlatThread.{FlatThread}
use Rattle.journal_laws.specs.flat_state.specs.State.{FlatState}
use Rattle.journal_laws.specs.flat_state.specs.Translation.{is_fit_row}
use Rattle.journal_laws.specs.flat_state.specs.Dependence.{signal_rows_of, parents_of_row, parents_of_found, parents}
use Rattle.journal_laws.specs.flat_state.specs.Names.{class_by, class_of_row, class_of}
use Rattle.journal_laws.specs.flat_state.proofs.Places.{get_from_Contains, fails_if_not_found}
use Rattle.journal_laws.specs.flat_laws.proofs.Members.{Contains-cases, contains_nothing, Contains-filter, Contains-from_map, Contains-option_map, found_place}
use Rattle.journal_laws.specs.flat_laws.proofs.ShortChains.{received_row}
use Rattle.group_laws.specs.Leaving.{AreAgreed}

-- a row leaves before threads
row_rank : (m receives : Bool) → rank_of (class_by m receives) ≤ 2
row_rank true receives = omega arith
row_rank false true = omega arith
row_rank false false = omega arith

-- where no page has two rows, each is the one that is found by its page
pub own_row : (rows : List Row) → HasOneRowAPage rows → (row : Row) → Contains rows row → row_of rows row.space row.vpn.0 ≡ Some row
own_row rows single row there = by (row_of rows row.space row.vpn.0) refl
  where
    itself : is_row_of row.space row.vpn.0 row ≡ true
    itself = and_from (row.space.0 == row.space.0) (row.vpn.0 == row.vpn.0) (eq-eqb row.space.0 row.space.0 refl) (eq-eqb row.vpn.0 row.vpn.0 refl)

    by : (o : Option Row) → row_of rows row.space row.vpn.0 ≡ o → o ≡ Some row
    by None found =
        let at = get_from_Contains rows row there in
        absurd (false≢true (sym (fails_if_not_found (is_row_of row.space row.vpn.0) rows at.0 row found at.1) ∙ itself))
    by (Some x) found =
        let at = get_from_Contains rows row there in
        let place = found_place (is_row_of row.space row.vpn.0) rows x found in
        let same = single at.0 place.0 row x at.1 place.1 place.2 in
        sym place.1 ∙ ap (slice_get rows) (sym same) ∙ at.1

module _ (s : FlatState) (agreed : AreAgreed s) (single : HasOneRowAPage s.rows) where
  -- a signal row of a row is one of the rows, and has a receiver; and the row is a message row
  signal_row : (first row : Row) → Contains (signal_rows_of s first) row → Contains s.rows row × (is_some row.receiver ≡ true) × (first.flags.m ≡ true)
  signal_row first row there = by first.flags.m refl there
    where
      by : (m : Bool) → first.flags.m ≡ m → Contains (if m then filter (λ other. is_signal_row_of first.frame other && is_fit_row s other) s.rows else []) row → Contains s.rows row × (is_some row.receiver ≡ true) × (first.flags.m ≡ true)
      by true is there =
          let kept = Contains-filter (λ (other : Row). is_signal_row_of first.frame other && is_fit_row s other) s.rows row there in
          let signals = and_parts (is_signal_row_of first.frame row) (is_fit_row s row) kept.1 in
          (kept.0, (and_parts (row.frame.0 == first.frame.0) (is_some row.receiver) signals.0).1, is)
      by false is there = absurd (contains_nothing row there)

  abbrev rank_of_row : Row → ℕ
  rank_of_row row = rank_of (class_by row.flags.m (is_some row.receiver))

  -- a row's parents leave behind it
  row_leaves : (row : Row) (parent : Name) → Contains (parents_of_row s row) parent → rank_of_row row < rank_of (class_of s parent)
  unfolding class_of
  row_leaves row parent depends =
      let low = row_rank row.flags.m (is_some row.receiver) in
      elim (Contains-cases (Space row.space) _ parent depends) [
        | inl first ↦ subst (λ (name : Name). rank_of_row row < rank_of (class_of s name)) first (omega (arith, low))
        | inr behind ↦ elim (Contains-append_cases (option_to_list (option_map Thread row.receiver)) (map row_name (signal_rows_of s row)) parent behind) [
          | inl receives ↦ let thread = Contains-option_map Thread row.receiver parent receives in subst (λ (name : Name). rank_of_row row < rank_of (class_of s name)) thread.2 (omega (arith, low))
          | inr signal ↦ let other = Contains-from_map row_name (signal_rows_of s row) parent signal in subst (λ (name : Name). rank_of_row row < rank_of (class_of s name)) other.2 (signals other.0 (signal_row row other.0 other.1))
        ]
      ]
    where
      signals : (other : Row) → Contains s.rows other × (is_some other.receiver ≡ true) × (row.flags.m ≡ true) → rank_of_row row < rank_of (class_of s (row_name other))
      signals other its =
          let plain : other.flags.m ≡ false = received_row other.flags.m other.flags.w other.flags.x (is_some other.receiver) (agreed other its.0) its.1 in
          let found : class_of_row (row_of s.rows other.space other.vpn.0) ≡ class_by false true = ap class_of_row (own_row s.rows single other its.0) ∙ ap (λ m. class_by m (is_some other.receiver)) plain ∙ ap (class_by false) its.1 in
          let last : rank_of (class_of_row (row_of s.rows other.space other.vpn.0)) ≡ 1 = ap rank_of found in
          let first : rank_of_row row ≡ 0 = ap (λ m. rank_of (class_by m (is_some row.receiver))) its.2 in
          omega (arith, first, last)

  pub parent_leaves_later : (child parent : Name) → Contains (parents s child) parent → rank_of (class_of s child) < rank_of (class_of s parent)
  unfolding parents class_of
  parent_leaves_later (Kernel kernel) parent depends = absurd (contains_nothing parent depends)
  parent_leaves_later (Space space) parent depends =
      let kernel = Contains-option_map Kernel (slice_get s.spaces space.0) parent depends in
      subst (λ (name : Name). 4 < rank_of (class_of s name)) kernel.2 (omega arith)
  parent_leaves_later (Thread thread) parent depends =
      let found = Contains-option_map (λ (u : FlatThread). Space u.space) (slice_get s.threads thread.0) parent depends in
      subst (λ (name : Name). 3 < rank_of (class_of s name)) found.2 (omega arith)
  parent_leaves_later (Mapping space vpn) parent depends = by (row_of s.rows space vpn.0) depends
    where
      by : (o : Option Row) → Contains (parents_of_found s o) parent → rank_of (class_of_row o) < rank_of (class_of s parent)
      by None depends = absurd (contains_nothing parent depends)
      by (Some row) depends = row_leaves row parent depends
