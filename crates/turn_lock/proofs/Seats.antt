-- What holds of the views after one of them has changed, one has come, or two have become one.
use Rattle.std.proofs.Common.{◌≡◌, ◌≢◌, ℕ, List, [], ◌∷◌, ◌++◌, length, set, refl, sym, ◌∙◌, subst, ap, ⊎_elim}
use mathlib.Core.Logic.{dite}
use mathlib.Core.Option.{some, some-injective}
use native.Mathlib.Decide.{ℕ_discrete}
use lib.ListN.{get_elem?}
use Rattle.atomic_table.proofs.Lists.{at_set, set_else, at_longer, at_last}
use Rattle.turn_lock.specs.declared.rule.View.{View}
use Rattle.turn_lock.specs.Rule.{EachSeat, SomeSeat, EachTwoSeats}
use Rattle.turn_lock.proofs.Lists.{here, in_longer}

module _ {E : Type 0} where
  pub each_after : (P : View E → Type 0) (vs : List (View E)) (id : ℕ) (w : View E) → P w → ((j : ℕ) (v : View E) → j ≢ id → get_elem? vs j ≡ some v → P v) → EachSeat P (set vs id w)
  each_after P vs id w mine others j v e = ⊎_elim (λ (t : (j ≡ id) × (w ≡ v)). subst P t.1 mine) (λ (t : (j ≢ id) × (get_elem? vs j ≡ some v)). others j v t.0 t.1) (at_set vs id j w v e)

  pub some_here : (P : View E → Type 0) (vs : List (View E)) (id : ℕ) (v w : View E) → get_elem? vs id ≡ some v → P w → SomeSeat P (set vs id w)
  some_here P vs id v w at p = (id, w, here vs id v w at, p)

  pub some_after : (P : View E → Type 0) (vs : List (View E)) (id : ℕ) (v w : View E) → get_elem? vs id ≡ some v → (P v → P w) → SomeSeat P vs → SomeSeat P (set vs id w)
  some_after P vs id v w at keep (j, u, e, p) = dite (ℕ_discrete j id)
      (λ is. some_here P vs id v w at (keep (subst P (some-injective u v (sym e ∙ ap (get_elem? vs) is ∙ at)) p)))
      (λ other. (j, u, set_else vs id j w other ∙ e, p))

  pub two_after : (R : View E → View E → Type 0) → ((v w : View E) → R v w → R w v) → (vs : List (View E)) (id : ℕ) (w : View E) → ((j : ℕ) (v : View E) → j ≢ id → get_elem? vs j ≡ some v → R w v) → EachTwoSeats R vs → EachTwoSeats R (set vs id w)
  two_after R flip vs id w mine old i j x y apart at_i at_j = ⊎_elim
      (λ (t : (i ≡ id) × (w ≡ x)). ⊎_elim (λ (u : (j ≡ id) × (w ≡ y)). absurd (apart (t.0 ∙ sym u.0)))
      (λ (u : (j ≢ id) × (get_elem? vs j ≡ some y)). subst (λ (z : View E). R z y) t.1 (mine j y u.0 u.1)) (at_set vs id j w y at_j))
      (λ (t : (i ≢ id) × (get_elem? vs i ≡ some x)). ⊎_elim (λ (u : (j ≡ id) × (w ≡ y)). subst (R x) u.1 (flip w x (mine i x t.0 t.1)))
      (λ (u : (j ≢ id) × (get_elem? vs j ≡ some y)). old i j x y apart t.1 u.1) (at_set vs id j w y at_j)) (at_set vs id i w x at_i)

  pub each_longer : (P : View E → Type 0) (vs : List (View E)) (w : View E) → EachSeat P vs → P w → EachSeat P (vs ++ w ∷ [])
  each_longer P vs w old mine j v e = ⊎_elim (λ (t : get_elem? vs j ≡ some v). old j v t) (λ (t : (j ≡ length vs) × (w ≡ v)). subst P t.1 mine) (in_longer vs w v j e)

  pub some_longer : (P : View E → Type 0) (vs : List (View E)) (w : View E) → SomeSeat P vs → SomeSeat P (vs ++ w ∷ [])
  some_longer P vs w (j, v, e, p) = (j, v, at_longer vs (w ∷ []) j v e, p)

  pub some_last : (P : View E → Type 0) (vs : List (View E)) (w : View E) → P w → SomeSeat P (vs ++ w ∷ [])
  some_last P vs w p = (length vs, w, at_last vs w (length vs) refl, p)

  pub two_longer : (R : View E → View E → Type 0) → ((v w : View E) → R v w → R w v) → (vs : List (View E)) (w : View E) → EachTwoSeats R vs → EachSeat (R w) vs → EachTwoSeats R (vs ++ w ∷ [])
  two_longer R flip vs w old mine i j x y apart at_i at_j = ⊎_elim
      (λ (t : get_elem? vs i ≡ some x). ⊎_elim (λ (u : get_elem? vs j ≡ some y). old i j x y apart t u) (λ (u : (j ≡ length vs) × (w ≡ y)). subst (R x) u.1 (flip w x (mine i x t))) (in_longer vs w y j at_j))
      (λ (t : (i ≡ length vs) × (w ≡ x)). ⊎_elim (λ (u : get_elem? vs j ≡ some y). subst (λ (z : View E). R z y) t.1 (mine j y u)) (λ (u : (j ≡ length vs) × (w ≡ y)). absurd (apart (t.0 ∙ sym u.0))) (in_longer vs w y j at_j))
      (in_longer vs w x i at_i)

  -- one seat has taken in another, of which nothing is left
  module _ (vs : List (View E)) (id other : ℕ) (v w both gone : View E) where
    abbrev pub joined_seats : List (View E)
    joined_seats = set (set vs id both) other gone

    pub each_joined : (P : View E → Type 0) → P both → P gone → EachSeat P vs → EachSeat P joined_seats
    each_joined P b g old = each_after P (set vs id both) other gone g (λ j x _ e. each_after P vs id both b (λ i y _ f. old i y f) j x e)

    pub some_joined : (P : View E → Type 0) → get_elem? vs id ≡ some v → get_elem? (set vs id both) other ≡ some w → (other ≡ id → ⊥) → (P v → P both) → (P w → P both) → SomeSeat P vs → SomeSeat P joined_seats
    some_joined P at there apart first second (j, x, e, p) = let mid : List (View E) = set vs id both in
        let it : P both → SomeSeat P joined_seats = λ q. (id, both, set_else mid other id gone (λ (h : id ≡ other). apart (sym h)) ∙ here vs id v both at, q) in
        dite (ℕ_discrete j id) (λ is. it (first (subst P (some-injective x v (sym e ∙ ap (get_elem? vs) is ∙ at)) p)))
        (λ not_id. dite (ℕ_discrete j other)
        (λ is. it (second (subst P (some-injective x w (sym e ∙ sym (set_else vs id j both not_id) ∙ ap (get_elem? mid) is ∙ there)) p)))
        (λ not_other. (j, x, set_else mid other j gone not_other ∙ (set_else vs id j both not_id ∙ e), p)))

    pub two_joined : (R : View E → View E → Type 0) → ((x y : View E) → R x y → R y x) → ((x : View E) → R gone x) → ((j : ℕ) (x : View E) → j ≢ id → j ≢ other → get_elem? vs j ≡ some x → R both x) → EachTwoSeats R vs → EachTwoSeats R joined_seats
    two_joined R flip nothing mine old i j x y apart at_i at_j = let mid : List (View E) = set vs id both in ⊎_elim
        (λ (t : (i ≡ other) × (gone ≡ x)). subst (λ (z : View E). R z y) t.1 (nothing y))
        (λ (t : (i ≢ other) × (get_elem? mid i ≡ some x)). ⊎_elim (λ (u : (j ≡ other) × (gone ≡ y)). subst (R x) u.1 (flip gone x (nothing x)))
        (λ (u : (j ≢ other) × (get_elem? mid j ≡ some y)). ⊎_elim
        (λ (a : (i ≡ id) × (both ≡ x)). ⊎_elim (λ (b : (j ≡ id) × (both ≡ y)). absurd (apart (a.0 ∙ sym b.0)))
        (λ (b : (j ≢ id) × (get_elem? vs j ≡ some y)). subst (λ (z : View E). R z y) a.1 (mine j y b.0 u.0 b.1)) (at_set vs id j both y u.1))
        (λ (a : (i ≢ id) × (get_elem? vs i ≡ some x)). ⊎_elim (λ (b : (j ≡ id) × (both ≡ y)). subst (R x) b.1 (flip both x (mine i x a.0 t.0 a.1)))
        (λ (b : (j ≢ id) × (get_elem? vs j ≡ some y)). old i j x y apart a.1 b.1) (at_set vs id j both y u.1))
        (at_set vs id i both x t.1)) (at_set mid other j gone y at_j)) (at_set mid other i gone x at_i)
