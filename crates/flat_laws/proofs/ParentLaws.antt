-- What a name depends on stands, and leaves later.
use Rattle.std.proofs.Common.{◌≡◌, ℕ, zero, suc, ◌<◌, ◌≤◌, Bool, true, false, List, [], ◌∷◌, map, length, Option, Some, None, is_some, slice_get, Contains, refl, ap, ◌∙◌, subst, inl, inr, arith}
use Rattle.std.specs.Prelude.{option_to_list}
use Rattle.std.specs.Option.{option_map}
use Rattle.std.proofs.lemmas.List.Elements.{Contains-append_cases}
use Rattle.cache_ident.specs.declared.names.SpaceNo.{SpaceNo}
use Rattle.cache_ident.specs.declared.names.ThreadNo.{ThreadNo}
use Rattle.cache_ident.specs.declared.names.Name.{Name}
use Rattle.cache_ident.specs.declared.names.Name.TheVariants.{Kernel, Space, Thread, Mapping}
use Rattle.phys_groups.specs.declared.rows.Row.{Row}
use Rattle.phys_groups.specs.Translation.{is_row_of, row_of}
use Rattle.writeback_order.specs.Order.{rank_of}
use Rattle.flat_state.specs.declared.records.FlatThread.{FlatThread}
use Rattle.flat_state.specs.State.{FlatState}
use Rattle.flat_state.specs.Declaration.{is_receiver_in, thread_is_in}
use Rattle.phys_groups.specs.Rows.{row_name}
use Rattle.flat_state.specs.Dependence.{signal_rows_of, parents_of_row, parents_of_found, parents}
use Rattle.flat_state.specs.Names.{stands, class_by, class_of_row, class_of}
use Rattle.flat_state.specs.WellFormed.{IsWellFormed}
use Rattle.flat_state.proofs.Finding.{find-contains}
use Rattle.flat_laws.proofs.Members.{Contains-cases, contains_nothing, Contains-from_map, Contains-option_map}
use Rattle.flat_laws.proofs.ShortChains.{own_row, signal_row, no_signals, received}

pub there_is : {X : Type 0} (xs : List X) (n : ℕ) → n < length xs → is_some (slice_get xs n) ≡ true
there_is [] n lt = absurd (omega arith)
there_is (x ∷ xs) zero lt = refl
there_is (x ∷ xs) (suc n) lt = there_is xs n (omega arith)

receiver_is : (space : SpaceNo) (threads : List FlatThread) (receiver : Option ThreadNo) (thread : ThreadNo) → is_receiver_in space threads receiver ≡ true → receiver ≡ Some thread → is_some (slice_get threads thread.0) ≡ true
receiver_is space threads receiver thread is_in is = by (slice_get threads thread.0) (subst (λ (o : Option ThreadNo). is_receiver_in space threads o ≡ true) is is_in)
  where
    by : (o : Option FlatThread) → thread_is_in space o ≡ true → is_some o ≡ true
    by None is_in = absurd (cc)
    by (Some t) is_in = refl

-- a row that isn't one of another class leaves before threads
row_rank : (m receives : Bool) → rank_of (class_by m receives) ≤ 2
row_rank true receives = omega arith
row_rank false true = omega arith
row_rank false false = omega arith

module _ (s : FlatState) (formed : IsWellFormed s) where
  pub parent_stands : (child parent : Name) → Contains (parents s child) parent → stands s parent ≡ true
  unfolding parents stands
  parent_stands (Kernel kernel) parent depends = absurd (contains_nothing parent depends)
  parent_stands (Space space) parent depends =
      let kernel = Contains-option_map Kernel (slice_get s.spaces space.0) parent depends in
      subst (λ (name : Name). stands s name ≡ true) kernel.2 (there_is s.kernels kernel.0.0 (formed.spaces.owned space.0 kernel.0 kernel.1))
  parent_stands (Thread thread) parent depends =
      let found = Contains-option_map (λ (u : FlatThread). Space u.space) (slice_get s.threads thread.0) parent depends in
      subst (λ (name : Name). stands s name ≡ true) found.2 (there_is s.spaces found.0.space.0 (formed.threads.each thread.0 found.0 found.1).space)
  parent_stands (Mapping space vpn) parent depends = by (row_of s.rows space vpn.0) refl depends
    where
      by : (o : Option Row) → row_of s.rows space vpn.0 ≡ o → Contains (parents_of_found s o) parent → stands s parent ≡ true
      by None found depends = absurd (contains_nothing parent depends)
      by (Some row) found depends =
          let is = formed.rows.each row (find-contains (is_row_of space vpn.0) s.rows row found) in
          elim (Contains-cases (Space row.space) _ parent depends) [
            | inl first ↦ subst (λ (name : Name). stands s name ≡ true) first (there_is s.spaces row.space.0 is.space)
            | inr behind ↦ elim (Contains-append_cases (option_to_list (option_map Thread row.receiver)) (map row_name (signal_rows_of s row)) parent behind) [
              | inl receives ↦ let thread = Contains-option_map Thread row.receiver parent receives in subst (λ (name : Name). stands s name ≡ true) thread.2 (receiver_is row.space s.threads row.receiver thread.0 is.receiver thread.1)
              | inr signal ↦
                  let other = Contains-from_map row_name (signal_rows_of s row) parent signal in
                  subst (λ (name : Name). stands s name ≡ true) other.2 (ap (λ (o : Option Row). is_some o) (own_row s formed other.0 (signal_row s formed (Some row) other.0 other.1).0))
            ]
          ]

  -- a row's parents leave behind it
  row_leaves : (row : Row) (parent : Name) → Contains (parents_of_row s row) parent → rank_of (class_by row.flags.m (is_some row.receiver)) < rank_of (class_of s parent)
  unfolding class_of
  row_leaves row parent depends =
      let low = row_rank row.flags.m (is_some row.receiver) in
      elim (Contains-cases (Space row.space) _ parent depends) [
        | inl first ↦ subst (λ (name : Name). rank_of (class_by row.flags.m (is_some row.receiver)) < rank_of (class_of s name)) first (omega (arith, low))
        | inr behind ↦ elim (Contains-append_cases (option_to_list (option_map Thread row.receiver)) (map row_name (signal_rows_of s row)) parent behind) [
          | inl receives ↦ let thread = Contains-option_map Thread row.receiver parent receives in subst (λ (name : Name). rank_of (class_by row.flags.m (is_some row.receiver)) < rank_of (class_of s name)) thread.2 (omega (arith, low))
          | inr signal ↦
              let other = Contains-from_map row_name (signal_rows_of s row) parent signal in
              let its = signal_row s formed (Some row) other.0 other.1 in
              subst (λ (name : Name). rank_of (class_by row.flags.m (is_some row.receiver)) < rank_of (class_of s name)) other.2 (signals other.0 its row.flags.m refl other.1)
        ]
      ]
    where
      signals : (other : Row) → Contains s.rows other × (is_some other.receiver ≡ true) → (m : Bool) → row.flags.m ≡ m → Contains (signal_rows_of s row) other → rank_of (class_by row.flags.m (is_some row.receiver)) < rank_of (class_of s (row_name other))
      signals other its true is there =
          let found : class_of_row (row_of s.rows other.space other.vpn.0) ≡ class_by false true = ap class_of_row (own_row s formed other its.0) ∙ ap (λ m. class_by m (is_some other.receiver)) (received s formed other its.0 its.1) ∙ ap (class_by false) its.1 in
          let last : rank_of (class_of_row (row_of s.rows other.space other.vpn.0)) ≡ 1 = ap rank_of found in
          let first : rank_of (class_by row.flags.m (is_some row.receiver)) ≡ 0 = ap (λ m. rank_of (class_by m (is_some row.receiver))) is in
          omega (arith, first, last)
      signals other its false is there = absurd (contains_nothing other (subst (λ (xs : List Row). Contains xs other) (no_signals s formed row is) there))

  pub parent_leaves_later : (child parent : Name) → Contains (parents s child) parent → rank_of (class_of s child) < rank_of (class_of s parent)
  unfolding parents class_of
  parent_leaves_later (Kernel kernel) parent depends = absurd (contains_nothing parent depends)
  parent_leaves_later (Space space) parent depends =
      let kernel = Contains-option_map Kernel (slice_get s.spaces space.0) parent depends in
      subst (λ (name : Name). 4 < rank_of (class_of s name)) kernel.2 (omega arith)
  parent_leaves_later (Thread thread) parent depends =
      let found = Contains-option_map (λ (u : FlatThread). Space u.space) (slice_get s.threads thread.0) parent depends in
      subst (λ (name : Name). 3 < rank_of (class_of s name)) found.2 (omega arith)
  parent_leaves_later (Mapping space vpn) parent depends = by (row_of s.rows space vpn.0) depends
    where
      by : (o : Option Row) → Contains (parents_of_found s o) parent → rank_of (class_of_row o) < rank_of (class_of s parent)
      by None depends = absurd (contains_nothing parent depends)
      by (Some row) depends = row_leaves row parent depends
