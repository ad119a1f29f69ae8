-- What stays resident where another one leaves or is locked.
use Rattle.std.proofs.Common.{◌≡◌, ◌≢◌, Bool, true, false, cond, not, List, [], ◌∷◌, filter, Contains, refl, ap, sym, ◌∙◌, subst, inl, inr, ◌⊎◌}
use Rattle.std.proofs.lemmas.Bool.{cases_Bool, false≢true}
use Rattle.cache_ident.specs.declared.idents.Ident.{Ident}
use Rattle.cache_ident.specs.Rolls.{is_same}
use Rattle.cache_ident.proofs.RollLemmas.{is_same-refl, same_ident}
use Rattle.cache_ident.specs.Residents.{Resident, without, locked_if}
use Rattle.flat_laws.proofs.Members.{Contains-here, Contains-behind, Contains-cases, contains_nothing, Contains-filter}

pub other_ident : (a b : Ident) → is_same a b ≡ false → a ≢ b
other_ident a b is e = false≢true (sym is ∙ ap (λ (i : Ident). is_same i b) e ∙ is_same-refl b)

pub differ : (a b : Ident) → a ≢ b → is_same a b ≡ false
differ a b other = elim (cases_Bool (is_same a b)) [
  | inl same ↦ absurd (other (same_ident a b same))
  | inr differs ↦ differs
]

pub Contains-from_filter : {X : Type 0} (p : X → Bool) (xs : List X) (y : X) → Contains xs y → p y ≡ true → Contains (filter p xs) y
Contains-from_filter {X = X} p [] y there is = absurd (contains_nothing y there)
Contains-from_filter {X = X} p (x ∷ xs) y there is = by (p x) refl (Contains-cases x xs y there) (λ behind. Contains-from_filter p xs y behind is)
  where
    by : (b : Bool) → p x ≡ b → (x ≡ y) ⊎ Contains xs y → (Contains xs y → Contains (filter p xs) y) → Contains (cond b (x ∷ filter p xs) (filter p xs)) y
    by true e (inl same) later = subst (λ (z : X). Contains (z ∷ filter p xs) y) (sym same) (Contains-here y (filter p xs))
    by true e (inr behind) later = Contains-behind x (filter p xs) y (later behind)
    by false e (inl same) later = absurd (false≢true (sym e ∙ (ap p same ∙ is)))
    by false e (inr behind) later = later behind

-- all others stay, and nothing else
pub without_cases : (ident : Ident) (rs : List Resident) (r : Resident) → Contains (without ident rs) r → Contains rs r × (r.ident ≢ ident)
without_cases ident rs r there =
    let kept = Contains-filter (λ (x : Resident). not (is_same x.ident ident)) rs r there in
    (kept.0, λ same. false≢true (ap not (sym (ap (λ (i : Ident). is_same i ident) same ∙ is_same-refl ident)) ∙ kept.1))

pub stays_without : (ident : Ident) (rs : List Resident) (r : Resident) → Contains rs r → r.ident ≢ ident → Contains (without ident rs) r
stays_without ident rs r there other = Contains-from_filter (λ (x : Resident). not (is_same x.ident ident)) rs r there (ap not (differ r.ident ident other))

-- a lock leaves the identifier and the name
pub locked_keeps : (ident : Ident) (on : Bool) (r : Resident) → ((locked_if ident on r).ident ≡ r.ident) × ((locked_if ident on r).name ≡ r.name)
locked_keeps ident on r = by (is_same r.ident ident)
  where
    by : (b : Bool) → ((cond b (record r { locked = on }) r).ident ≡ r.ident) × ((cond b (record r { locked = on }) r).name ≡ r.name)
    by true = (refl, refl)
    by false = (refl, refl)
