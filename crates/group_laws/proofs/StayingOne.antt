-- What keeps each resident the only one of its identifier and its name.
use Rattle.std.proofs.Common.{◌≡◌, ◌≢◌, Bool, false, not, List, [], ◌∷◌, get_or, ap, sym, ◌∙◌, inl, inr}
use Rattle.std.proofs.lemmas.List.Elements.{All-contains_itself, Contains-push_cases}
use Rattle.std.proofs.lemmas.List.Kept.{AllPairs-cons, AllPairs-filter}
use Rattle.std.proofs.lemmas.List.Quantifiers.{all_pairs_push}
use Rattle.cache_ident.specs.declared.idents.Ident.{Ident}
use Rattle.cache_ident.specs.declared.names.Name.{Name}
use Rattle.cache_ident.specs.Rolls.{is_same}
use Rattle.cache_ident.specs.Residents.{Resident, IsIdentResident, IsNameResident, with_loaded, without, locked_if, with_lock}
use Rattle.journal_laws.specs.flat_laws.proofs.Members.{Contains-from_map}
use Rattle.journal_laws.specs.run_journal.proofs.Others.{without_cases, locked_keeps}
use Rattle.journal_laws.specs.Leaving.{AreApart, HaveOneEach}
use Rattle.group_laws.specs.Leaving.{without_all}
use Rattle.group_laws.proofs.Counting.{apart_behind, apart_first}

pub one_left : (rs : List Resident) (ident : Ident) → HaveOneEach rs → HaveOneEach (without ident rs)
one_left rs ident one = record {
  idents = λ a b a_there b_there same. one.idents a b (without_cases ident rs a a_there).0 (without_cases ident rs b b_there).0 same;
  names = λ a b a_there b_there same. one.names a b (without_cases ident rs a a_there).0 (without_cases ident rs b b_there).0 same;
}

pub one_all_left : (rs : List Resident) (idents : List Ident) → HaveOneEach rs → HaveOneEach (without_all idents rs)
one_all_left rs [] one = one
one_all_left rs (ident ∷ idents) one = one_all_left (without ident rs) idents (one_left rs ident one)

pub one_locked : (rs : List Resident) (ident : Ident) (on : Bool) → HaveOneEach rs → HaveOneEach (with_lock ident on rs)
one_locked rs ident on one = record {
  idents = λ a b a_there b_there same.
      let was_a = Contains-from_map (locked_if ident on) rs a a_there in
      let was_b = Contains-from_map (locked_if ident on) rs b b_there in
      let equal : was_a.0.ident ≡ was_b.0.ident = sym (locked_keeps ident on was_a.0).0 ∙ ap (λ (x : Resident). x.ident) was_a.2 ∙ same ∙ ap (λ (x : Resident). x.ident) (sym was_b.2) ∙ (locked_keeps ident on was_b.0).0 in
      sym was_a.2 ∙ ap (locked_if ident on) (one.idents was_a.0 was_b.0 was_a.1 was_b.1 equal) ∙ was_b.2;
  names = λ a b a_there b_there same.
      let was_a = Contains-from_map (locked_if ident on) rs a a_there in
      let was_b = Contains-from_map (locked_if ident on) rs b b_there in
      let equal : was_a.0.name ≡ was_b.0.name = sym (locked_keeps ident on was_a.0).1 ∙ ap (λ (x : Resident). x.name) was_a.2 ∙ same ∙ ap (λ (x : Resident). x.name) (sym was_b.2) ∙ (locked_keeps ident on was_b.0).1 in
      sym was_a.2 ∙ ap (locked_if ident on) (one.names was_a.0 was_b.0 was_a.1 was_b.1 equal) ∙ was_b.2;
}

module _ (rs : List Resident) (ident : Ident) (name : Name) where
  abbrev new : Resident
  new = record { ident = ident; name = name; locked = false }

  pub one_loaded : HaveOneEach rs → (IsIdentResident rs ident → ⊥) → (IsNameResident rs name → ⊥) → HaveOneEach (with_loaded ident name rs)
  one_loaded one no_ident no_name = record {
    idents = λ a b a_there b_there same. elim (Contains-push_cases rs new a a_there) [
      | inl a_was ↦ elim (Contains-push_cases rs new b b_there) [
        | inl b_was ↦ one.idents a b a_was b_was same
        | inr b_is ↦ absurd (no_ident (a, a_was, same ∙ ap (λ (x : Resident). x.ident) (sym b_is)))
      ]
      | inr a_is ↦ elim (Contains-push_cases rs new b b_there) [
        | inl b_was ↦ absurd (no_ident (b, b_was, sym same ∙ ap (λ (x : Resident). x.ident) (sym a_is)))
        | inr b_is ↦ sym a_is ∙ b_is
      ]
    ];
    names = λ a b a_there b_there same. elim (Contains-push_cases rs new a a_there) [
      | inl a_was ↦ elim (Contains-push_cases rs new b b_there) [
        | inl b_was ↦ one.names a b a_was b_was same
        | inr b_is ↦ absurd (no_name (a, a_was, same ∙ ap (λ (x : Resident). x.name) (sym b_is)))
      ]
      | inr a_is ↦ elim (Contains-push_cases rs new b b_there) [
        | inl b_was ↦ absurd (no_name (b, b_was, sym same ∙ ap (λ (x : Resident). x.name) (sym a_is)))
        | inr b_is ↦ sym a_is ∙ b_is
      ]
    ];
  }

  pub apart_loaded : AreApart rs → (IsIdentResident rs ident → ⊥) → AreApart (with_loaded ident name rs)
  apart_loaded apart no_ident =
      all_pairs_push (λ a b. a.ident ≢ b.ident) rs new apart (λ k d low same. no_ident (get_or rs k d, All-contains_itself rs k d low, same))

pub apart_left : (rs : List Resident) (ident : Ident) → AreApart rs → AreApart (without ident rs)
apart_left rs ident apart = AllPairs-filter (λ a b. a.ident ≢ b.ident) (λ (x : Resident). not (is_same x.ident ident)) rs apart

pub apart_all_left : (rs : List Resident) (idents : List Ident) → AreApart rs → AreApart (without_all idents rs)
apart_all_left rs [] apart = apart
apart_all_left rs (ident ∷ idents) apart = apart_all_left (without ident rs) idents (apart_left rs ident apart)

pub apart_locked : (rs : List Resident) (ident : Ident) (on : Bool) → AreApart rs → AreApart (with_lock ident on rs)
apart_locked [] ident on apart = apart
apart_locked (r ∷ rs) ident on apart =
    AllPairs-cons (λ a b. a.ident ≢ b.ident) (locked_if ident on r) (with_lock ident on rs)
    (λ k d low same.
    let was = Contains-from_map (locked_if ident on) rs (get_or (with_lock ident on rs) k d) (All-contains_itself (with_lock ident on rs) k d low) in
    apart_first r rs apart was.0 was.1 (sym (locked_keeps ident on was.0).0 ∙ ap (λ (x : Resident). x.ident) was.2 ∙ sym same ∙ (locked_keeps ident on r).0))
    (apart_locked rs ident on (apart_behind r rs apart))
