-- What stays good, and on what nothing depends.
use Rattle.std.proofs.Common.{◌≡◌, ◌≢◌, Bool, true, false, List, [], ◌∷◌, Contains, ap, sym, ◌∙◌, subst, inl, inr}
use Rattle.std.proofs.lemmas.List.Elements.{Contains-append_left, Contains-push_cases}
use Rattle.cache_ident.specs.declared.idents.Ident.{Ident}
use Rattle.cache_ident.specs.declared.names.Name.{Name}
use Rattle.cache_ident.specs.Residents.{Resident, IsNameResident, with_loaded, without, locked_if, with_lock}
use Rattle.journal_laws.specs.flat_state.specs.State.{FlatState}
use Rattle.journal_laws.specs.flat_state.specs.Dependence.{Depends}
use Rattle.journal_laws.specs.flat_state.specs.Names.{is_fit_name, stands}
use Rattle.journal_laws.specs.flat_laws.proofs.Members.{Contains-map, Contains-from_map}
use Rattle.journal_laws.specs.run_journal.specs.Groups.{HasParents, NothingDependsOn}
use Rattle.journal_laws.specs.run_journal.specs.Legal.{StaysGood, AreGood}
use Rattle.journal_laws.specs.run_journal.proofs.Others.{without_cases, stays_without, locked_keeps}
use Rattle.journal_laws.specs.Leaving.{HaveOneEach}

-- what a resident was before a lock, or its end
pub before_lock : (ident : Ident) (on : Bool) (rs : List Resident) (r : Resident) → Contains (with_lock ident on rs) r → (q : Resident) × Contains rs q × (q.ident ≡ r.ident) × (q.name ≡ r.name)
before_lock ident on rs r there =
    let from = Contains-from_map (locked_if ident on) rs r there in
    (from.0, from.1, sym (locked_keeps ident on from.0).0 ∙ ap (λ (x : Resident). x.ident) from.2, sym (locked_keeps ident on from.0).1 ∙ ap (λ (x : Resident). x.name) from.2)

-- a name that was resident is so behind a lock
pub named_by_lock : (ident : Ident) (on : Bool) (rs : List Resident) (name : Name) → IsNameResident rs name → IsNameResident (with_lock ident on rs) name
named_by_lock ident on rs name (q, there, is) = (locked_if ident on q, Contains-map (locked_if ident on) rs q there, (locked_keeps ident on q).1 ∙ is)

module _ (s : FlatState) (rs : List Resident) where
  pub good_left : (r : Resident) → HaveOneEach rs → AreGood s rs → Contains rs r → NothingDependsOn s rs r.name → AreGood s (without r.ident rs)
  good_left r one good r_there last x x_there =
      let was = without_cases r.ident rs x x_there in
      let its = good x was.0 in
      record {
        there = its.there;
        fit = its.fit;
        parents = λ parent depends.
            let found = its.parents parent depends in
            let other : found.0.ident ≢ r.ident = λ same.
            let named = ap (λ (q : Resident). q.name) (one.idents found.0 r found.1 r_there same) in
            last x was.0 (subst (Depends s x.name) (sym found.2 ∙ named) depends) in
            (found.0, stays_without r.ident rs found.0 found.1 other, found.2);
      }

  pub good_loaded : (ident : Ident) (name : Name) → AreGood s rs → stands s name ≡ true → is_fit_name s name ≡ true → HasParents s rs name → AreGood s (with_loaded ident name rs)
  good_loaded ident name good there fit parents x x_there = elim (Contains-push_cases rs new x x_there) [
    | inl was ↦ (let its = good x was in record { there = its.there; fit = its.fit; parents = λ parent depends. more parent (its.parents parent depends) })
    | inr is ↦ subst (StaysGood s (with_loaded ident name rs)) is (record { there = there; fit = fit; parents = λ parent depends. more parent (parents parent depends) })
  ]
    where
      new : Resident
      new = record { ident = ident; name = name; locked = false }

      more : (parent : Name) → IsNameResident rs parent → IsNameResident (with_loaded ident name rs) parent
      more parent found = (found.0, Contains-append_left rs (new ∷ []) found.0 found.1, found.2)

  pub good_locked : (ident : Ident) (on : Bool) → AreGood s rs → AreGood s (with_lock ident on rs)
  good_locked ident on good x x_there =
      let was = before_lock ident on rs x x_there in
      let its = good was.0 was.1 in
      record {
        there = subst (λ (name : Name). stands s name ≡ true) was.3 its.there;
        fit = subst (λ (name : Name). is_fit_name s name ≡ true) was.3 its.fit;
        parents = λ parent depends. named_by_lock ident on rs parent (its.parents parent (subst (λ (name : Name). Depends s name parent) (sym was.3) depends));
      }

  pub last_loaded : (ident : Ident) (name : Name) → AreGood s rs → (IsNameResident rs name → ⊥) → HasParents s rs name → NothingDependsOn s (with_loaded ident name rs) name
  last_loaded ident name good new parents child child_there depends = elim (Contains-push_cases rs (record { ident = ident; name = name; locked = false }) child child_there) [
    | inl was ↦ new ((good child was).parents name depends)
    | inr is ↦ new (parents name (subst (λ (r : Resident). Depends s r.name name) (sym is) depends))
  ]

  pub last_left : (ident : Ident) (name : Name) → NothingDependsOn s rs name → NothingDependsOn s (without ident rs) name
  last_left ident name last child child_there depends = last child (without_cases ident rs child child_there).0 depends

  pub last_locked : (ident : Ident) (on : Bool) (name : Name) → NothingDependsOn s rs name → NothingDependsOn s (with_lock ident on rs) name
  last_locked ident on name last child child_there depends =
      let was = before_lock ident on rs child child_there in
      last was.0 was.1 (subst (λ (n : Name). Depends s n name) (sym was.3) depends)
