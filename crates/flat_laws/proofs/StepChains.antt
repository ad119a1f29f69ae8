-- The chain of a thread's next step is such a list.
use Rattle.std.proofs.Common.{◌≡◌, ℕ, ◌∷◌, ◌++◌, map, Option, Some, None, slice_get, Contains, refl, ap, sym, ◌∙◌, subst, inl, inr}
use Rattle.std.specs.Prelude.{option_to_list}
use Rattle.std.proofs.lemmas.List.Elements.{Contains-append_cases}
use Rattle.std.proofs.lemmas.Option.{same_Some}
use Rattle.cache_ident.specs.declared.names.Name.{Name}
use Rattle.cache_ident.specs.declared.names.Name.TheVariants.{Thread}
use Rattle.cache_ident.specs.declared.names.ThreadNo.{ThreadNo}
use Rattle.phys_groups.specs.declared.rows.Row.{Row}
use Rattle.phys_groups.specs.Translation.{allows_fetch}
use Rattle.flat_state.specs.rv32_exec.specs.declared.actions.Action.{Action}
use Rattle.flat_state.specs.declared.records.DataAccess.{DataAccess}
use Rattle.flat_state.specs.declared.records.FlatThread.{FlatThread}
use Rattle.flat_state.specs.State.{FlatState}
use Rattle.flat_state.specs.Translation.{rights_of, wants}
use Rattle.flat_state.specs.Pages.{pages_of}
use Rattle.flat_state.specs.Signals.{next_action}
use Rattle.phys_groups.specs.Rows.{row_name}
use Rattle.flat_state.specs.NextSteps.{fetch_row, data_row, data_access, row_of_access, row_of_action, chain}
use Rattle.flat_state.specs.WellFormed.{IsWellFormed}
use Rattle.flat_laws.proofs.Members.{Contains-cases, Contains-option, Contains-from_map}
use Rattle.flat_laws.proofs.ShortChains.{AreFew, AreIn, goes_through, In, thread_in, fetched_in, accessed_in, up_in, few}

-- a data access goes through a row of the thread's space
data_row_there : (s : FlatState) (t : FlatThread) (row : Row) → data_row s t ≡ Some row → Contains s.rows row × (row.space ≡ t.space)
data_row_there s t row e = of_action (next_action t.context (pages_of s t.space)) e
  where
    of_access : (o : Option DataAccess) → row_of_access s t o ≡ Some row → Contains s.rows row × (row.space ≡ t.space)
    of_access None e = absurd (cc)
    of_access (Some a) e = let is = goes_through (rights_of s t.space) s.rows (wants a.access) t.space a.va row e in (is.there, is.in_space)

    of_action : (o : Option Action) → row_of_action s t o ≡ Some row → Contains s.rows row × (row.space ≡ t.space)
    of_action None e = absurd (cc)
    of_action (Some action) e = of_access (data_access action) e

module _ (s : FlatState) (formed : IsWellFormed s) (n : ℕ) (t : FlatThread) (here : slice_get s.threads n ≡ Some t) where
  own_space : (thread : ThreadNo) (u : FlatThread) → Some t.no ≡ Some thread → slice_get s.threads thread.0 ≡ Some u → u.space ≡ t.space
  own_space thread u is there =
      let at : slice_get s.threads t.no.0 ≡ Some u = subst (λ (x : ThreadNo). slice_get s.threads x.0 ≡ Some u) (sym (same_Some t.no thread is)) there in
      let same : t ≡ u = same_Some t u (sym here ∙ ap (slice_get s.threads) (sym (formed.threads.each n t here).number) ∙ at) in
      sym (ap (λ (x : FlatThread). x.space) same)

  are_in : AreIn s t.space (Some t.no) (fetch_row s t) (data_row s t)
  are_in = record {
    thread = own_space;
    fetched = λ row e. goes_through (rights_of s t.space) s.rows allows_fetch t.space t.context.pc row e;
    accessed = data_row_there s t;
  }

  abbrev InChain : Name → Type 0
  InChain = In s formed t.space (Some t.no) (fetch_row s t) (data_row s t) are_in

  begins_in : (name : Name) → Contains (Thread t.no ∷ (map row_name (option_to_list (fetch_row s t)) ++ map row_name (option_to_list (data_row s t)))) name → InChain name
  begins_in name there = elim (Contains-cases (Thread t.no) _ name there) [
    | inl is ↦ subst InChain is (thread_in s formed t.space (Some t.no) (fetch_row s t) (data_row s t) are_in t.no refl)
    | inr behind ↦ elim (Contains-append_cases (map row_name (option_to_list (fetch_row s t))) (map row_name (option_to_list (data_row s t))) name behind) [
      | inl fetch ↦ let row = Contains-from_map row_name (option_to_list (fetch_row s t)) name fetch in subst InChain row.2 (fetched_in s formed t.space (Some t.no) (fetch_row s t) (data_row s t) are_in row.0 (Contains-option (fetch_row s t) row.0 row.1))
      | inr access ↦ let row = Contains-from_map row_name (option_to_list (data_row s t)) name access in subst InChain row.2 (accessed_in s formed t.space (Some t.no) (fetch_row s t) (data_row s t) are_in row.0 (Contains-option (data_row s t) row.0 row.1))
    ]
  ]

  pub chain_is_few : AreFew (chain s t)
  unfolding chain
  chain_is_few = few s formed t.space (Some t.no) (fetch_row s t) (data_row s t) are_in (chain s t) (λ name there.
      up_in s formed t.space (Some t.no) (fetch_row s t) (data_row s t) are_in 4 (Thread t.no ∷ (map row_name (option_to_list (fetch_row s t)) ++ map row_name (option_to_list (data_row s t)))) begins_in name there)
