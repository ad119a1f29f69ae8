-- What is kept by name of what is resident, as what it depends or relies on, once one comes, leaves or is locked.
use Rattle.std.proofs.Common.{◌≡◌, ◌↔◌, ◌⊎◌, Bool, false, List, [], ◌∷◌, Contains, ap, sym, ◌∙◌, subst, inl, inr}
use Rattle.std.proofs.lemmas.List.Elements.{Contains-push, Contains-push_cases, Contains-append_left}
use Rattle.cache_ident.specs.declared.idents.Ident.{Ident}
use Rattle.cache_ident.specs.declared.names.Name.{Name}
use Rattle.cache_ident.specs.Residents.{Resident, IsNameResident, with_loaded, without, locked_if, with_lock}
use Rattle.residents.specs.flat_laws.proofs.Members.{Contains-map, Contains-from_map}
use Rattle.residents.specs.run_journal.proofs.Others.{without_cases, stays_without, locked_keeps}

abbrev new_one : Ident → Name → Resident
new_one ident name = record { ident = ident; name = name; locked = false }

-- a name has a key where it is resident and has it by a list
abbrev AreKept : {K : Type 0} → (K → Name → Type 0) → (Name → List K) → List Resident → Type 0
AreKept {K} has of rs = (key : K) (name : Name) → has key name ↔ (IsNameResident rs name × Contains (of name) key)

pub pairs_loaded : {K : Type 0} (old after : K → Name → Type 0) (of : Name → List K) (rs : List Resident) (ident : Ident) (name : Name) → ((key : K) (other : Name) → after key other ↔ (old key other ⊎ ((other ≡ name) × Contains (of name) key))) → AreKept old of rs → AreKept after of (with_loaded ident name rs)
pairs_loaded old after of rs ident name adds are key child = (
  λ is. elim ((adds key child).0 is) [
    | inl before ↦ (let its = (are key child).0 before in ((its.0.0, Contains-append_left rs (new_one ident name ∷ []) its.0.0 its.0.1, its.0.2), its.1))
    | inr now ↦ ((new_one ident name, Contains-push rs (new_one ident name), sym now.0), subst (λ (n : Name). Contains (of n) key) (sym now.0) now.1)
  ],
  λ is. (adds key child).1 (elim (Contains-push_cases rs (new_one ident name) is.0.0 is.0.1) [
    | inl before ↦ inl ((are key child).1 ((is.0.0, before, is.0.2), is.1))
    | inr now ↦ (let its : child ≡ name = sym is.0.2 ∙ ap (λ (x : Resident). x.name) (sym now) in inr (its, subst (λ (n : Name). Contains (of n) key) its is.1))
  ]),
)

pub pairs_left : {K : Type 0} (old after : K → Name → Type 0) (of : Name → List K) (rs : List Resident) (g : Resident) → Contains rs g → ((a b : Resident) → Contains rs a → Contains rs b → a.ident ≡ b.ident → a ≡ b) → ((a b : Resident) → Contains rs a → Contains rs b → a.name ≡ b.name → a ≡ b)
    → ((key : K) (other : Name) → after key other ↔ (old key other × (((other ≡ g.name) × Contains (of g.name) key) → ⊥))) → AreKept old of rs → AreKept after of (without g.ident rs)
pairs_left old after of rs g there idents names removes are key child = (
  λ is.
      let was = (removes key child).0 is in
      let its = (are key child).0 was.0 in (
        (
          its.0.0,
          stays_without g.ident rs its.0.0 its.0.1 (λ same.
              let gone : child ≡ g.name = sym its.0.2 ∙ ap (λ (x : Resident). x.name) (idents its.0.0 g its.0.1 there same) in
              was.1 (gone, subst (λ (n : Name). Contains (of n) key) gone its.1)),
          its.0.2,
        ),
        its.1,
      ),
  λ is.
      let kept = without_cases g.ident rs is.0.0 is.0.1 in
      (removes key child).1 ((are key child).1 ((is.0.0, kept.0, is.0.2), is.1), λ gone. kept.1 (ap (λ (x : Resident). x.ident) (names is.0.0 g kept.0 there (is.0.2 ∙ gone.0)))),
)

pub pairs_locked : {K : Type 0} (has : K → Name → Type 0) (of : Name → List K) (rs : List Resident) (ident : Ident) (on : Bool) → AreKept has of rs → AreKept has of (with_lock ident on rs)
pairs_locked has of rs ident on are key child = (
  λ is. (let its = (are key child).0 is in ((locked_if ident on its.0.0, Contains-map (locked_if ident on) rs its.0.0 its.0.1, (locked_keeps ident on its.0.0).1 ∙ its.0.2), its.1)),
  λ is.
      let was = Contains-from_map (locked_if ident on) rs is.0.0 is.0.1 in
      (are key child).1 ((was.0, was.1, sym (locked_keeps ident on was.0).1 ∙ ap (λ (x : Resident). x.name) was.2 ∙ is.0.2), is.1),
)

-- where what is resident has the same, the pairs are the same
pub pairs_same : {K : Type 0} (has : K → Name → Type 0) (before after : Name → List K) (rs : List Resident) → ((r : Resident) → Contains rs r → (key : K) → Contains (after r.name) key ↔ Contains (before r.name) key) → AreKept has before rs → AreKept has after rs
pairs_same has before after rs same are key child = (
  λ is. (let its = (are key child).0 is in (its.0, subst (λ (n : Name). Contains (after n) key) its.0.2 ((same its.0.0 its.0.1 key).1 (subst (λ (n : Name). Contains (before n) key) (sym its.0.2) its.1)))),
  λ is. (are key child).1 (is.0, subst (λ (n : Name). Contains (before n) key) is.0.2 ((same is.0.0 is.0.1 key).0 (subst (λ (n : Name). Contains (after n) key) (sym is.0.2) is.1))),
)
