-- What stands at the places of a list, and what may come there in a legal journal.
use Rattle.std.proofs.Common.{◌≡◌, ℕ, zero, suc, ◌<◌, List, [], ◌∷◌, ◌++◌, length, take, Some, slice_get, refl, ap, sym, subst, inl, inr, ◌⊎◌, append_assoc, arith}
use Rattle.std.proofs.lemmas.List.{append-nil}
use Rattle.std.proofs.lemmas.Option.{same_Some}
use Rattle.group_laws.specs.run_journal.specs.declared.entries.Entry.{Entry}
use Rattle.group_laws.specs.run_journal.specs.Legal.{AreLegal, IsLegal, MayCome}
use Rattle.group_laws.specs.run_journal.specs.Told.{nothing_told, told, told_after, told_from, Told}

module _ {X : Type 0} where
  pub get_last : (xs : List X) (x : X) → slice_get (xs ++ x ∷ []) (length xs) ≡ Some x
  get_last [] x = refl
  get_last (y ∷ xs) x = get_last xs x

  -- what stands at a place of the first so many stands there, and is one of them
  pub get_from_take : (n : ℕ) (xs : List X) (k : ℕ) (x : X) → slice_get (take n xs) k ≡ Some x → (slice_get xs k ≡ Some x) × (k < n)
  get_from_take zero xs k x there = absurd (cc)
  get_from_take (suc n) [] k x there = absurd (cc)
  get_from_take (suc n) (y ∷ xs) zero x there = (there, omega arith)
  get_from_take (suc n) (y ∷ xs) (suc k) x there = let rest = get_from_take n xs k x there in (rest.0, omega arith)

  pub get_in_take : (n : ℕ) (xs : List X) (k : ℕ) (x : X) → k < n → slice_get xs k ≡ Some x → slice_get (take n xs) k ≡ Some x
  get_in_take zero xs k x low there = absurd (omega arith)
  get_in_take (suc n) [] k x low there = absurd (cc)
  get_in_take (suc n) (y ∷ xs) zero x low there = there
  get_in_take (suc n) (y ∷ xs) (suc k) x low there = get_in_take n xs k x (omega arith) there

  -- a list is empty, or has a last element
  pub ends : (xs : List X) → (xs ≡ []) ⊎ ((earlier : List X) × (x : X) × (xs ≡ earlier ++ x ∷ []))
  ends [] = inl refl
  ends (y ∷ xs) = elim (ends xs) [
    | inl none ↦ inr ([], y, ap (λ (zs : List X). y ∷ zs) none)
    | inr last ↦ inr (y ∷ last.0, last.1, ap (λ (zs : List X). y ∷ zs) last.2)
  ]

  -- what holds of nothing, and of a list with one element more, holds of all
  pub by_last : (P : List X → Type 0) → P [] → ((xs : List X) (x : X) → P xs → P (xs ++ x ∷ [])) → (xs : List X) → P xs
  by_last P none more xs = from [] xs none
    where
      from : (front behind : List X) → P front → P (front ++ behind)
      from front [] so = subst P (sym (append-nil front)) so
      from front (x ∷ behind) so = subst P (append_assoc front (x ∷ []) behind) (from (front ++ x ∷ []) behind (more front x so))

-- each entry may come on what those before it tell
may_come_from : (k : Told) (es : List Entry) → AreLegal k es → (at : ℕ) (e : Entry) → slice_get es at ≡ Some e → MayCome (told_from k (take at es)) e
may_come_from k [] legal at e there = absurd (cc)
may_come_from k (x ∷ es) legal zero e there = subst (MayCome k) (same_Some x e there) legal.0
may_come_from k (x ∷ es) legal (suc at) e there = may_come_from (told_after k x) es legal.1 at e there

pub may_come_at : (j : List Entry) → IsLegal j → (at : ℕ) (e : Entry) → slice_get j at ≡ Some e → MayCome (told (take at j)) e
may_come_at j legal at e there = may_come_from nothing_told j legal.each at e there
