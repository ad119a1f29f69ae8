-- What is resident still once some have left, one after another.
use Rattle.std.proofs.Common.{◌≡◌, suc, List, [], ◌∷◌, ◌++◌, AllPairs, Contains, refl, sym, subst, inl, inr, arith}
use Rattle.std.proofs.lemmas.List.Elements.{Contains-append_right}
use Rattle.cache_ident.specs.declared.idents.Ident.{Ident}
use Rattle.cache_ident.specs.Residents.{Resident, without}
use Rattle.journal_laws.specs.flat_laws.proofs.Members.{Contains-here, Contains-behind, Contains-cases, contains_nothing}
use Rattle.journal_laws.specs.run_journal.proofs.Others.{without_cases, stays_without}
use Rattle.group_laws.specs.Leaving.{without_all}

-- it was resident, and isn't one of these
pub without_all_cases : (idents : List Ident) (rs : List Resident) (r : Resident) → Contains (without_all idents rs) r → Contains rs r × (Contains idents r.ident → ⊥)
without_all_cases [] rs r there = (there, λ none. contains_nothing r.ident none)
without_all_cases (ident ∷ idents) rs r there =
    let later = without_all_cases idents (without ident rs) r there in
    let first = without_cases ident rs r later.0 in (
      first.0,
      λ gone. elim (Contains-cases ident idents r.ident gone) [
        | inl same ↦ first.1 (sym same)
        | inr behind ↦ later.1 behind
      ],
    )

-- all others are
pub stays_without_all : (idents : List Ident) (rs : List Resident) (r : Resident) → Contains rs r → (Contains idents r.ident → ⊥) → Contains (without_all idents rs) r
stays_without_all [] rs r there other = there
stays_without_all (ident ∷ idents) rs r there other =
    stays_without_all idents (without ident rs) r
    (stays_without ident rs r there (λ same. other (subst (λ (i : Ident). Contains (ident ∷ idents) i) (sym same) (Contains-here ident idents))))
    (λ behind. other (Contains-behind ident idents r.ident behind))

-- the last that leaves leaves what the others left
pub without_all-push : (idents : List Ident) (ident : Ident) (rs : List Resident) → without_all (idents ++ ident ∷ []) rs ≡ without ident (without_all idents rs)
without_all-push [] ident rs = refl
without_all-push (first ∷ idents) ident rs = without_all-push idents ident (without first rs)

-- ---- a relation of each element of a list to each later one

module _ {X : Type 0} (R : X → X → Type 0) where
  pub pairs_tail : (x : X) (xs : List X) → AllPairs R (x ∷ xs) → AllPairs R xs
  pairs_tail x xs all i j d lt within = all (suc i) (suc j) d (omega arith) (omega arith)

  pub pairs_head : (x : X) (xs : List X) → AllPairs R (x ∷ xs) → (y : X) → Contains xs y → R x y
  pairs_head x xs all y (k, lt, e) = subst (λ (z : X). R x z) e (all 0 (suc k) y (omega arith) (omega arith))

  -- it holds of what stands before an element, with that element
  pub pairs_before : (before : List X) (x : X) (behind : List X) → AllPairs R (before ++ x ∷ behind) → (y : X) → Contains before y → R y x
  pairs_before [] x behind all y there = absurd (contains_nothing y there)
  pairs_before (z ∷ before) x behind all y there = elim (Contains-cases z before y there) [
    | inl same ↦ subst (λ (w : X). R w x) same (pairs_head z (before ++ x ∷ behind) all x (Contains-append_right before (x ∷ behind) x (Contains-here x behind)))
    | inr later ↦ pairs_before before x behind (pairs_tail z (before ++ x ∷ behind) all) y later
  ]

  -- and of an element, with what stands behind it
  pub pairs_behind : (before : List X) (x : X) (behind : List X) → AllPairs R (before ++ x ∷ behind) → (y : X) → Contains behind y → R x y
  pairs_behind [] x behind all y there = pairs_head x behind all y there
  pairs_behind (z ∷ before) x behind all y there = pairs_behind before x behind (pairs_tail z (before ++ x ∷ behind) all) y there
