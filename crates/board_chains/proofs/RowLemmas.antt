-- The rows of a chain, and what of it comes before what.
use Rattle.std.proofs.Common.{◌≡◌, ℕ, zero, suc, ◌<◌, Bool, true, false, List, [], ◌∷◌, ◌++◌, map, filter, take, Contains, Option, Some, None, slice_get, refl, sym, ◌∙◌, ap, subst, inl, inr, arith}
use Rattle.std.specs.Prelude.{if◌then◌else◌, ◌==◌, ◌&&◌, is_some, option_to_list}
use Rattle.std.specs.Option.{option_map}
use Rattle.std.proofs.lemmas.Bool.{and_from, and_parts, cases_Bool, eq-eqb, false≢true}
use Rattle.std.proofs.lemmas.List.Elements.{Contains-append_cases, Contains-push_cases, filter-append}
use Rattle.std.proofs.lemmas.Option.{same_Some}
use Rattle.cached_machine.specs.flat_laws.proofs.Members.{Contains-behind, Contains-cases, Contains-filter, Contains-from_map, Contains-here, Contains-option_map, contains_nothing}
use Rattle.cache_ident.specs.declared.names.Name.{Name}
use Rattle.cache_ident.specs.declared.names.Name.TheVariants.{Kernel, Space, Thread, Mapping}
use Rattle.cache_ident.specs.declared.names.ThreadNo.{ThreadNo}
use Rattle.phys_groups.specs.declared.rows.Row.{Row}
use Rattle.phys_groups.specs.Rows.{row_name, HasOneRowAPage}
use Rattle.phys_groups.specs.Translation.{is_row_of, row_of}
use Rattle.flat_state.specs.signal_pages.specs.Signals.{is_signal_row_of}
use Rattle.flat_state.specs.declared.records.FlatThread.{FlatThread}
use Rattle.flat_state.specs.Dependence.{parents, parents_of_found, parents_of_row, signal_rows_of, Depends}
use Rattle.flat_state.specs.Names.{is_fit_found, is_fit_name, stands}
use Rattle.flat_state.specs.State.{FlatState}
use Rattle.flat_state.specs.Translation.{is_fit_row}
use Rattle.flat_state.specs.WellFormed.{IsWellFormed}
use Rattle.flat_state.proofs.Places.{get_from_Contains}
use Rattle.cached_machine.specs.flat_laws.proofs.ParentLaws.{parent_stands}
use Rattle.cached_machine.specs.flat_laws.proofs.ShortChains.{no_signals, own_row, received, signal_row}
use Rattle.cached_machine.specs.flat_laws.proofs.WholeChains.{below, height}
use Rattle.board_chains.specs.Chains.{row_parents, MayBeChained}
use Rattle.board_chains.specs.Lists.{with_any, AreAllOnce}
use Rattle.board_chains.specs.Ranks.{is_row, rank_of, AreInOrder}
use Rattle.board_chains.proofs.ListLemmas.{also_by}

-- ---- rows with their names

-- of rows of which no page has two the names stand once
named_so : (row other : Row) → row_name other ≡ row_name row → is_row_of row.space row.vpn.0 other ≡ true
named_so row other same = subst (λ (name : Name). is_named name other ≡ true) same (by_itself other)
  where
    is_named : Name → Row → Bool
    is_named (Mapping space vpn) x = is_row_of space vpn.0 x
    is_named (Kernel kernel) x = false
    is_named (Space space) x = false
    is_named (Thread thread) x = false

    by_itself : (x : Row) → is_row_of x.space x.vpn.0 x ≡ true
    by_itself x = and_from (x.space.0 == x.space.0) (x.vpn.0 == x.vpn.0) (eq-eqb x.space.0 x.space.0 refl) (eq-eqb x.vpn.0 x.vpn.0 refl)

not_again : (p : Row → Bool) (row : Row) (rows : List Row) → HasOneRowAPage (row ∷ rows) → Contains (map row_name (filter p rows)) (row_name row) → ⊥
not_again p row rows single there =
    let other = Contains-from_map row_name (filter p rows) (row_name row) there in
    let kept = Contains-filter p rows other.0 other.1 in
    let at = get_from_Contains rows other.0 kept.0 in
    let same = single 0 (suc at.0) row other.0 refl at.1 (named_so row other.0 other.2) in
    omega (arith, same)

pub names_apart : (p : Row → Bool) (rows : List Row) → HasOneRowAPage rows → AreAllOnce (map row_name (filter p rows))
names_apart p [] single = tt
names_apart p (row ∷ rows) single =
    let rest : AreAllOnce (map row_name (filter p rows)) = names_apart p rows (λ i j a b at_i at_j same. let next = single (suc i) (suc j) a b at_i at_j same in omega (arith, next)) in
    elim (cases_Bool (p row)) [
      | inl kept ↦ rw kept (not_again p row rows single, rest)
      | inr dropped ↦ rw dropped rest
    ]

-- ---- what rows depend on

-- of the names that a row depends on, those of rows are its signal rows
module _ (s : FlatState) (row : Row) where
  no_receiver_row : (o : Option ThreadNo) → filter is_row (option_to_list (option_map Thread o)) ≡ []
  no_receiver_row None = refl
  no_receiver_row (Some thread) = refl

  all_rows : (rows : List Row) → filter is_row (map row_name rows) ≡ map row_name rows
  all_rows [] = refl
  all_rows (x ∷ rows) = ap (λ (names : List Name). row_name x ∷ names) (all_rows rows)

  pub rows_above : filter is_row (parents_of_row s row) ≡ map row_name (signal_rows_of s row)
  rows_above = filter-append is_row (option_to_list (option_map Thread row.receiver)) (map row_name (signal_rows_of s row)) ∙ (ap (λ (names : List Name). names ++ filter is_row (map row_name (signal_rows_of s row))) (no_receiver_row row.receiver) ∙ all_rows (signal_rows_of s row))

-- a row is there, and is fit
pub record IsFitRow (s : FlatState) (row : Row) : Type 0 where
  pub there : Contains s.rows row
  pub fit : is_fit_row s row ≡ true

-- .. and has the name
pub record IsRowThere (s : FlatState) (name : Name) : Type 0 where
  pub row : Row
  pub there : Contains s.rows row
  pub named : row_name row ≡ name
  pub fit : is_fit_row s row ≡ true

-- it has no m
pub record IsPlainRow (s : FlatState) (name : Name) : Type 0 where
  pub row : Row
  pub there : Contains s.rows row
  pub named : row_name row ≡ name
  pub fit : is_fit_row s row ≡ true
  pub no_m : row.flags.m ≡ false

pub passes : (p : Name → Bool) (names : List Name) (name : Name) → Contains names name → p name ≡ true → Contains (filter p names) name
passes p [] name there is = absurd (contains_nothing name there)
passes p (x ∷ names) name there is = elim (Contains-cases x names name there) [
  | inl same ↦ rw (ap p same ∙ is) (subst (λ (y : Name). Contains (y ∷ filter p names) name) (sym same) (Contains-here name (filter p names)))
  | inr behind ↦ elim (cases_Bool (p x)) [
    | inl kept ↦ rw kept (Contains-behind x (filter p names) name (passes p names name behind is))
    | inr dropped ↦ rw dropped (passes p names name behind is)
  ]
]

module _ (s : FlatState) (formed : IsWellFormed s) where
  pub parents_of_its : (row : Row) → Contains s.rows row → parents s (row_name row) ≡ parents_of_row s row
  unfolding parents
  parents_of_its row there = ap (parents_of_found s) (own_row s formed row there)

  fit_signal : (row other : Row) (m : Bool) → Contains (if m then filter (λ x. is_signal_row_of row.frame x && is_fit_row s x) s.rows else []) other → is_fit_row s other ≡ true
  fit_signal row other true there = (and_parts (is_signal_row_of row.frame other) (is_fit_row s other) (Contains-filter (λ (x : Row). is_signal_row_of row.frame x && is_fit_row s x) s.rows other there).1).1
  fit_signal row other false there = absurd (contains_nothing other there)

  -- a row on which anything depends is a signal row
  of_row : (row : Row) (parent : Name) → Contains (parents_of_row s row) parent → is_row parent ≡ true → IsPlainRow s parent
  of_row row parent depends is =
      let listed = subst (λ (names : List Name). Contains names parent) (rows_above s row) (passes is_row (parents_of_row s row) parent depends is) in
      let other = Contains-from_map row_name (signal_rows_of s row) parent listed in
      let its = signal_row s formed (Some row) other.0 other.1 in
      record { row = other.0; there = its.0; named = other.2; fit = fit_signal row other.0 row.flags.m other.1; no_m = received s formed other.0 its.0 its.1 }

  pub row_above : (child parent : Name) → Depends s child parent → is_row parent ≡ true → IsPlainRow s parent
  unfolding parents
  row_above (Kernel kernel) parent depends is = absurd (contains_nothing parent depends)
  row_above (Space space) parent depends is =
      let kernel = Contains-option_map Kernel (slice_get s.spaces space.0) parent depends in
      absurd (false≢true (ap is_row kernel.2 ∙ is))
  row_above (Thread thread) parent depends is =
      let found = Contains-option_map (λ (u : FlatThread). Space u.space) (slice_get s.threads thread.0) parent depends in
      absurd (false≢true (ap is_row found.2 ∙ is))
  row_above (Mapping space vpn) parent depends is = by (row_of s.rows space vpn.0) depends
    where
      by : (o : Option Row) → Contains (parents_of_found s o) parent → IsPlainRow s parent
      by None depends = absurd (contains_nothing parent depends)
      by (Some row) depends = of_row row parent depends is

  -- a row without m depends on no row
  pub none_above : (name parent : Name) → IsPlainRow s name → Depends s name parent → is_row parent ≡ true → ⊥
  none_above name parent plain depends is =
      let its = subst (λ (child : Name). Contains (parents s child) parent) (sym plain.named) depends in
      let listed = subst (λ (names : List Name). Contains names parent) (parents_of_its plain.row plain.there) its in
      let rows = subst (λ (names : List Name). Contains names parent) (rows_above s plain.row) (passes is_row (parents_of_row s plain.row) parent listed is) in
      contains_nothing parent (subst (λ (rows : List Row). Contains (map row_name rows) parent) (no_signals s formed plain.row plain.no_m) rows)

  -- what isn't a row depends on no row, but on what comes earlier
  pub rank_falls : (child parent : Name) → is_row child ≡ false → Depends s child parent → rank_of parent < rank_of child
  unfolding parents
  rank_falls (Kernel kernel) parent plain depends = absurd (contains_nothing parent depends)
  rank_falls (Space space) parent plain depends =
      let kernel = Contains-option_map Kernel (slice_get s.spaces space.0) parent depends in
      subst (λ (x : Name). rank_of x < 1) kernel.2 (omega arith)
  rank_falls (Thread thread) parent plain depends =
      let found = Contains-option_map (λ (u : FlatThread). Space u.space) (slice_get s.threads thread.0) parent depends in
      subst (λ (x : Name). rank_of x < 2) found.2 (omega arith)
  rank_falls (Mapping space vpn) parent plain depends = absurd (cc)

  -- a row that is there stands
  pub row_is_good : (name : Name) → IsRowThere s name → MayBeChained s name
  unfolding stands is_fit_name
  row_is_good name is = subst (MayBeChained s) is.named (record {
    there = ap is_some (own_row s formed is.row is.there);
    fit = ap (is_fit_found s) (own_row s formed is.row is.there) ∙ is.fit;
  })

  -- what is depended on is good
  pub parent_is_good : (child parent : Name) → Depends s child parent → MayBeChained s parent
  unfolding is_fit_name
  parent_is_good child parent depends = by parent (parent_stands s formed child parent depends) (row_above child parent depends)
    where
      by : (name : Name) → stands s name ≡ true → (is_row name ≡ true → IsPlainRow s name) → MayBeChained s name
      by (Kernel kernel) there row = record { there = there; fit = refl }
      by (Space space) there row = record { there = there; fit = refl }
      by (Thread thread) there row = record { there = there; fit = refl }
      by (Mapping space vpn) there row = let is = row refl in row_is_good (Mapping space vpn) (record { row = is.row; there = is.there; named = is.named; fit = is.fit })

  -- the rows that one depends on stand once
  pub row_parents_apart : (o : Option Row) → ((row : Row) → o ≡ Some row → Contains s.rows row) → AreAllOnce (row_parents s (option_map row_name o))
  row_parents_apart None there = tt
  row_parents_apart (Some row) there =
      subst AreAllOnce (sym (ap (filter is_row) (parents_of_its row (there row refl)) ∙ rows_above s row)) (by row.flags.m)
    where
      by : (m : Bool) → AreAllOnce (map row_name (if m then filter (λ x. is_signal_row_of row.frame x && is_fit_row s x) s.rows else []))
      by true = names_apart (λ (x : Row). is_signal_row_of row.frame x && is_fit_row s x) s.rows formed.rows.single
      by false = tt

  -- ---- what comes before what

  -- no name depends on a later one
  pub NoneLater : List Name → Type 0
  NoneLater [] = Unit {0}
  NoneLater (x ∷ names) = ((y : Name) → Contains names y → Depends s x y → ⊥) × NoneLater names

  none_push : (names : List Name) (y : Name) → NoneLater names → ((x : Name) → Contains names x → Depends s x y → ⊥) → NoneLater (names ++ y ∷ [])
  unfolding NoneLater
  none_push [] y none last = (λ z there. absurd (contains_nothing z there), tt)
  none_push (x ∷ names) y none last = (
    λ z there. elim (Contains-push_cases names y z there) [
      | inl before ↦ none.0 z before
      | inr same ↦ subst (λ (w : Name). Depends s x w → ⊥) same (last x (Contains-here x names))
    ],
    none_push names y none.1 (λ z there. last z (Contains-behind x names z there)),
  )

  pub none_append : (names others : List Name) → NoneLater names → NoneLater others → ((x y : Name) → Contains names x → Contains others y → Depends s x y → ⊥) → NoneLater (names ++ others)
  unfolding NoneLater
  none_append [] others none rest cross = rest
  none_append (x ∷ names) others none rest cross = (
    λ z there. elim (Contains-append_cases names others z there) [
      | inl before ↦ none.0 z before
      | inr behind ↦ cross x z (Contains-here x names) behind
    ],
    none_append names others none.1 rest (λ z y there. cross z y (Contains-behind x names z there)),
  )

  pub none_also : (names : List Name) (o : Option Name) → NoneLater names → ((x y : Name) → Contains names x → o ≡ Some y → Depends s x y → ⊥) → NoneLater (with_any names o)
  none_also names None none last = none
  none_also names (Some y) none last = also_by names y NoneLater (λ there. none) (λ fresh. none_push names y none (λ x there. last x y there refl))

  pub none_of_rows : (names : List Name) → ((x : Name) → Contains names x → IsPlainRow s x) → ((x : Name) → Contains names x → is_row x ≡ true) → NoneLater names
  unfolding NoneLater
  none_of_rows [] plain rows = tt
  none_of_rows (x ∷ names) plain rows = (
    λ y there depends. none_above x y (plain x (Contains-here x names)) depends (rows y (Contains-behind x names y there)),
    none_of_rows names (λ y there. plain y (Contains-behind x names y there)) (λ y there. rows y (Contains-behind x names y there)),
  )

  pub none_numbered : (names : List Name) → AreInOrder names → ((x : Name) → Contains names x → is_row x ≡ false) → NoneLater names
  unfolding NoneLater
  none_numbered [] order plain = tt
  none_numbered (x ∷ names) order plain = (
    λ y there depends.
        let falls = rank_falls x y (plain x (Contains-here x names)) depends in
        elim (order.0 y there) [
          | inl below ↦ omega (arith, below, falls)
          | inr level ↦ let same = level.0 in omega (arith, same, falls)
        ],
    none_numbered names order.1 (λ y there. plain y (Contains-behind x names y there)),
  )

  -- so what is depended on stands earlier
  pub earlier : (names : List Name) → NoneLater names → (i : ℕ) (child parent : Name) → slice_get names i ≡ Some child → Contains names parent → Depends s child parent → Contains (take i names) parent
  unfolding NoneLater
  earlier [] none i child parent at there depends = absurd (contains_nothing parent there)
  earlier (x ∷ names) none zero child parent at there depends =
      let is : x ≡ child = same_Some x child at in
      elim (Contains-cases x names parent there) [
        | inl same ↦ let lt = below s formed child parent depends in let level : height s parent ≡ height s child = ap (height s) (sym same ∙ is) in absurd (omega arith)
        | inr later ↦ absurd (none.0 parent later (subst (λ (y : Name). Depends s y parent) (sym is) depends))
      ]
  earlier (x ∷ names) none (suc i) child parent at there depends = elim (Contains-cases x names parent there) [
    | inl same ↦ subst (Contains (x ∷ take i names)) same (Contains-here x (take i names))
    | inr later ↦ Contains-behind x (take i names) parent (earlier names none.1 i child parent at later depends)
  ]
