-- Identifiers of loaded names, one after another.
use Rattle.std.proofs.Common.{◌≡◌, ℕ, ◌+◌, ◌<◌, List, [], ◌∷◌, ◌++◌, length, take, get_or, Option, Some, sym, ◌∙◌, ap}
use Rattle.std.specs.List.{cons_option}
use Rattle.std.proofs.lemmas.List.{append-nil, take_more}
use Rattle.std.proofs.lemmas.List.Elements.{filter_map-append}
use Rattle.cache_ident.specs.declared.idents.Ident.{Ident}
use Rattle.cache_ident.specs.declared.names.Name.{Name}
use Rattle.cache_ident.specs.Residents.{Resident, IsNameResident, IsResident}
use Rattle.cached_machine.specs.journal_laws.specs.Leaving.{HaveOneEach}
use Rattle.cached_machine.specs.desc_parents.specs.Idents.{ident_of, idents_of}
use Rattle.cached_machine.specs.desc_parents.proofs.IdentLemmas.{ident_found, ident_none}

module _ (rs : List Resident) (have : HaveOneEach rs) (names : List Name) (i : ℕ) (d : Name) (within : i < length names) where
  abbrev name : Name
  name = get_or names i d

  one_more : idents_of rs (take (i + 1) names) ≡ idents_of rs (take i names) ++ cons_option (ident_of rs name) []
  one_more = ap (idents_of rs) (take_more names i d within) ∙ filter_map-append (ident_of rs) (take i names) (name ∷ [])

  pub loaded_more : (idents : List Ident) (ident : Ident) → idents ≡ idents_of rs (take i names) → IsResident rs ident name → idents ++ ident ∷ [] ≡ idents_of rs (take (i + 1) names)
  loaded_more idents ident before is =
      let found : ident_of rs name ≡ Some ident = ap (ident_of rs) (sym is.3) ∙ ident_found rs have is.0 is.1 ∙ ap Some is.2 in
      ap (λ (xs : List Ident). xs ++ ident ∷ []) before ∙ ap (λ (o : Option Ident). idents_of rs (take i names) ++ cons_option o []) (sym found) ∙ sym one_more

  pub not_loaded_more : (idents : List Ident) → idents ≡ idents_of rs (take i names) → (IsNameResident rs name → ⊥) → idents ≡ idents_of rs (take (i + 1) names)
  not_loaded_more idents before never =
      before ∙ sym (append-nil (idents_of rs (take i names))) ∙ ap (λ (o : Option Ident). idents_of rs (take i names) ++ cons_option o []) (sym (ident_none rs name never)) ∙ sym one_more
