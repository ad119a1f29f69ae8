-- A chain lacks nothing that is depended on.
use Rattle.std.proofs.Common.{◌≡◌, ℕ, zero, suc, ◌<◌, ◌≤◌, Bool, true, false, List, ◌∷◌, ◌++◌, map, Option, Some, None, slice_get, Contains, refl, ap, ◌∙◌, subst, inl, inr, arith}
use Rattle.std.specs.Prelude.{if◌then◌else◌, option_to_list}
use Rattle.std.specs.List.{flat_map}
use Rattle.std.specs.Option.{option_map}
use Rattle.std.proofs.lemmas.List.Elements.{Contains-append_cases, Contains-append_left, Contains-append_right}
use Rattle.cache_ident.specs.declared.names.Name.{Name}
use Rattle.cache_ident.specs.declared.names.Name.TheVariants.{Kernel, Space, Thread, Mapping}
use Rattle.phys_groups.specs.declared.rows.Row.{Row}
use Rattle.phys_groups.specs.Translation.{row_of}
use Rattle.flat_state.specs.declared.records.FlatThread.{FlatThread}
use Rattle.flat_state.specs.State.{FlatState}
use Rattle.phys_groups.specs.Rows.{row_name}
use Rattle.flat_state.specs.Dependence.{signal_rows_of, parents_of_row, parents_of_found, parents, up}
use Rattle.flat_state.specs.NextSteps.{fetch_row, data_row, chain}
use Rattle.flat_state.specs.WellFormed.{IsWellFormed}
use Rattle.flat_laws.proofs.Members.{Contains-cases, contains_nothing, Contains-from_map, Contains-flat_map, Contains-from_flat_map, Contains-option_map}
use Rattle.flat_laws.proofs.ShortChains.{own_row, signal_row, received, no_signals}

-- over how many steps a row depends on others at most
abbrev pub height_of : Option Row → ℕ
height_of None = 0
height_of (Some row) = if row.flags.m then 4 else 3

-- the same of a name
pub height : FlatState → Name → ℕ
height s (Kernel kernel) = 0
height s (Space space) = 1
height s (Thread thread) = 2
height s (Mapping space vpn) = height_of (row_of s.rows space vpn.0)

module _ (s : FlatState) (formed : IsWellFormed s) where
  -- no dependence is longer than four steps
  pub at_most_four : (name : Name) → height s name ≤ 4
  unfolding height
  at_most_four (Kernel kernel) = omega arith
  at_most_four (Space space) = omega arith
  at_most_four (Thread thread) = omega arith
  at_most_four (Mapping space vpn) = by (row_of s.rows space vpn.0)
    where
      by_flag : (m : Bool) → (if m then 4 else 3) ≤ 4
      by_flag true = omega arith
      by_flag false = omega arith

      by : (o : Option Row) → height_of o ≤ 4
      by None = omega arith
      by (Some row) = by_flag row.flags.m

  -- a signal row has no m
  signal_height : (row other : Row) → Contains (signal_rows_of s row) other → height s (row_name other) ≡ 3
  unfolding height
  signal_height row other there =
      let its = signal_row s formed (Some row) other there in
      ap height_of (own_row s formed other its.0) ∙ ap (λ (m : Bool). if m then 4 else 3) (received s formed other its.0 its.1)

  row_below : (row : Row) (parent : Name) → Contains (parents_of_row s row) parent → height s parent < (if row.flags.m then 4 else 3)
  unfolding height
  row_below row parent depends = by row.flags.m refl
    where
      few : (name : Name) → height s name ≤ 2 → name ≡ parent → height s parent ≤ 2
      few name le same = subst (λ (x : Name). height s x ≤ 2) same le

      others : Contains (option_to_list (option_map Thread row.receiver) ++ map row_name (signal_rows_of s row)) parent → row.flags.m ≡ false → height s parent ≤ 2
      others behind no_m = elim (Contains-append_cases (option_to_list (option_map Thread row.receiver)) (map row_name (signal_rows_of s row)) parent behind) [
        | inl receives ↦ let thread = Contains-option_map Thread row.receiver parent receives in few (Thread thread.0) (omega arith) thread.2
        | inr signal ↦
            let other = Contains-from_map row_name (signal_rows_of s row) parent signal in
            absurd (contains_nothing other.0 (subst (λ (xs : List Row). Contains xs other.0) (no_signals s formed row no_m) other.1))
      ]

      all : Contains (option_to_list (option_map Thread row.receiver) ++ map row_name (signal_rows_of s row)) parent → height s parent ≤ 3
      all behind = elim (Contains-append_cases (option_to_list (option_map Thread row.receiver)) (map row_name (signal_rows_of s row)) parent behind) [
        | inl receives ↦ let thread = Contains-option_map Thread row.receiver parent receives in let le = few (Thread thread.0) (omega arith) thread.2 in omega arith
        | inr signal ↦
            let other = Contains-from_map row_name (signal_rows_of s row) parent signal in
            let three = signal_height row other.0 other.1 in
            subst (λ (x : Name). height s x ≤ 3) other.2 (omega (arith, three))
      ]

      by : (m : Bool) → row.flags.m ≡ m → height s parent < (if m then 4 else 3)
      by true is = elim (Contains-cases (Space row.space) _ parent depends) [
        | inl space ↦ let le = few (Space row.space) (omega arith) space in omega arith
        | inr behind ↦ let le = all behind in omega arith
      ]
      by false is = elim (Contains-cases (Space row.space) _ parent depends) [
        | inl space ↦ let le = few (Space row.space) (omega arith) space in omega arith
        | inr behind ↦ let le = others behind is in omega arith
      ]

  -- what a name depends on is less high
  pub below : (name parent : Name) → Contains (parents s name) parent → height s parent < height s name
  unfolding height parents
  below (Kernel kernel) parent depends = absurd (contains_nothing parent depends)
  below (Space space) parent depends =
      let kernel = Contains-option_map Kernel (slice_get s.spaces space.0) parent depends in
      subst (λ (x : Name). height s x < 1) kernel.2 (omega arith)
  below (Thread thread) parent depends =
      let found = Contains-option_map (λ (u : FlatThread). Space u.space) (slice_get s.threads thread.0) parent depends in
      subst (λ (x : Name). height s x < 2) found.2 (omega arith)
  below (Mapping space vpn) parent depends = by (row_of s.rows space vpn.0) depends
    where
      by : (o : Option Row) → Contains (parents_of_found s o) parent → height s parent < height_of o
      by None depends = absurd (contains_nothing parent depends)
      by (Some row) depends = row_below row parent depends

  -- the names are among those that are reached from them
  pub first_in_up : (steps : ℕ) (names : List Name) (name : Name) → Contains names name → Contains (up steps s names) name
  first_in_up zero names name there = there
  first_in_up (suc steps) names name there = Contains-append_left names (up steps s (flat_map (parents s) names)) name there

  -- over as many steps as they are high, all is reached
  pub whole : (steps : ℕ) (names : List Name) → ((name : Name) → Contains names name → height s name ≤ steps) → (name parent : Name) → Contains (up steps s names) name → Contains (parents s name) parent → Contains (up steps s names) parent
  whole zero names low name parent there depends = let lt = below name parent depends in let le = low name there in absurd (omega arith)
  whole (suc steps) names low name parent there depends = elim (Contains-append_cases names (up steps s (flat_map (parents s) names)) name there) [
    | inl first ↦ Contains-append_right names (up steps s (flat_map (parents s) names)) parent (first_in_up steps (flat_map (parents s) names) parent (Contains-flat_map (parents s) names name parent first depends))
    | inr later ↦ Contains-append_right names (up steps s (flat_map (parents s) names)) parent (whole steps (flat_map (parents s) names) (λ x above.
        let child = Contains-from_flat_map (parents s) names x above in
        let lt = below child.0 x child.2 in
        let le = low child.0 child.1 in
        omega arith) name parent later depends)
  ]

  pub chain_is_whole : (t : FlatThread) (name parent : Name) → Contains (chain s t) name → Contains (parents s name) parent → Contains (chain s t) parent
  unfolding chain
  chain_is_whole t name parent there depends =
      whole 4 (Thread t.no ∷ (map row_name (option_to_list (fetch_row s t)) ++ map row_name (option_to_list (data_row s t)))) (λ x first. at_most_four x) name parent there depends
