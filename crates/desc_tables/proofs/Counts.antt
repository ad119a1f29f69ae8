-- How many pass a test, and how many of each kind are resident.
use Rattle.std.proofs.Common.{◌≡◌, ℕ, ◌+◌, ◌≤◌, Bool, true, false, cond, not, List, [], ◌∷◌, length, filter, count_by, Contains, refl, ap, sym, ◌∙◌, ◌⊎◌, inl, inr, arith}
use Rattle.std.proofs.lemmas.Bool.{cases_Bool, false≢true}
use Rattle.cache_ident.specs.declared.idents.Ident.{Ident}
use Rattle.cache_ident.specs.declared.idents.Kind.{Kind}
use Rattle.cache_ident.specs.declared.idents.Kind.TheVariants as kind
use Rattle.cache_ident.specs.Residents.{Resident, without}
use Rattle.cache_ident.specs.Rolls.{is_same}
use Rattle.desc_groups.specs.flat_state.proofs.Places.{count_by-cons, count_by-filter}
use Rattle.desc_groups.specs.flat_laws.proofs.Members.{Contains-here, Contains-behind, Contains-cases, contains_nothing}
use Rattle.desc_groups.specs.run_journal.specs.Legal.{count_of, is_kind}
use Rattle.desc_groups.specs.run_journal.proofs.Others.{other_ident, stays_without}
use Rattle.desc_groups.specs.group_laws.specs.Leaving.{without_all}

module _ {X : Type 0} where
  -- where whatever passes one test passes one of two others, no more pass it than pass these
  pub count_either : (f g h : X → Bool) (xs : List X) → ((x : X) → Contains xs x → f x ≡ true → (g x ≡ true) ⊎ (h x ≡ true)) → count_by f xs ≤ count_by g xs + count_by h xs
  count_either f g h [] each = omega arith
  count_either f g h (x ∷ xs) each =
      rw (count_by-cons f x xs, count_by-cons g x xs, count_by-cons h x xs)
      (by (f x) (g x) (h x) (each x (Contains-here x xs)) (count_either f g h xs (λ y there. each y (Contains-behind x xs y there))))
    where
      by : (a b c : Bool) → (a ≡ true → (b ≡ true) ⊎ (c ≡ true)) → count_by f xs ≤ count_by g xs + count_by h xs → cond a 1 0 + count_by f xs ≤ (cond b 1 0 + count_by g xs) + (cond c 1 0 + count_by h xs)
      by false b c passes rest = omega arith
      by true true c passes rest = omega arith
      by true false true passes rest = omega arith
      by true false false passes rest = elim (passes refl) [
        | inl is ↦ absurd (false≢true is)
        | inr is ↦ absurd (false≢true is)
      ]

  -- where whatever passes one test passes another, no more pass the one
  pub count_narrow : (f g : X → Bool) (xs : List X) → ((x : X) → Contains xs x → f x ≡ true → g x ≡ true) → count_by f xs ≤ count_by g xs
  count_narrow f g [] each = omega arith
  count_narrow f g (x ∷ xs) each =
      rw (count_by-cons f x xs, count_by-cons g x xs)
      (by (f x) (g x) (each x (Contains-here x xs)) (count_narrow f g xs (λ y there. each y (Contains-behind x xs y there))))
    where
      by : (a b : Bool) → (a ≡ true → b ≡ true) → count_by f xs ≤ count_by g xs → cond a 1 0 + count_by f xs ≤ cond b 1 0 + count_by g xs
      by false b passes rest = omega arith
      by true true passes rest = omega arith
      by true false passes rest = absurd (false≢true (passes refl))

  -- what nothing passes counts none
  pub count_nothing : (f : X → Bool) (xs : List X) → ((x : X) → Contains xs x → f x ≡ true → ⊥) → count_by f xs ≡ 0
  count_nothing f [] none = refl
  count_nothing f (x ∷ xs) none =
      rw (count_by-cons f x xs) (by (f x) (none x (Contains-here x xs)) (count_nothing f xs (λ y there. none y (Contains-behind x xs y there))))
    where
      by : (a : Bool) → (a ≡ true → ⊥) → count_by f xs ≡ 0 → cond a 1 0 + count_by f xs ≡ 0
      by false never rest = omega arith
      by true never rest = absurd (never refl)

  -- a filter that drops one that counts leaves fewer that do
  pub count_dropped : (p q : X → Bool) (xs : List X) (y : X) → Contains xs y → p y ≡ true → q y ≡ false → count_by p (filter q xs) + 1 ≤ count_by p xs
  count_dropped p q [] y there counts drops = absurd (contains_nothing y there)
  count_dropped p q (x ∷ xs) y there counts drops = elim (Contains-cases x xs y there) [
    | inl same ↦
        let rest : filter q (x ∷ xs) ≡ filter q xs = ap (λ (b : Bool). cond b (x ∷ filter q xs) (filter q xs)) (ap q same ∙ drops) in
        let first : cond {A = ℕ} (p x) 1 0 ≡ 1 = ap (λ (b : Bool). cond {A = ℕ} b 1 0) (ap p same ∙ counts) in
        let fewer = count_by-filter p q xs in
        let whole = count_by-cons p x xs in
        let all : count_by p (filter q (x ∷ xs)) ≡ count_by p (filter q xs) = ap (count_by p) rest in
        omega arith
    | inr behind ↦ by (q x) refl (count_dropped p q xs y behind counts drops)
  ]
    where
      by : (b : Bool) → q x ≡ b → count_by p (filter q xs) + 1 ≤ count_by p xs → count_by p (filter q (x ∷ xs)) + 1 ≤ count_by p (x ∷ xs)
      by true is later =
          let rest : filter q (x ∷ xs) ≡ x ∷ filter q xs = ap (λ (b : Bool). cond b (x ∷ filter q xs) (filter q xs)) is in
          let all : count_by p (filter q (x ∷ xs)) ≡ cond (p x) 1 0 + count_by p (filter q xs) = ap (count_by p) rest ∙ count_by-cons p x (filter q xs) in
          let whole = count_by-cons p x xs in
          omega arith
      by false is later =
          let rest : filter q (x ∷ xs) ≡ filter q xs = ap (λ (b : Bool). cond b (x ∷ filter q xs) (filter q xs)) is in
          let all : count_by p (filter q (x ∷ xs)) ≡ count_by p (filter q xs) = ap (count_by p) rest in
          let whole = count_by-cons p x xs in
          omega arith

module _ (p : Resident → Bool) where
  -- once some have left no more count than before
  pub count_left : (idents : List Ident) (rs : List Resident) → count_by p (without_all idents rs) ≤ count_by p rs
  count_left [] rs = omega arith
  count_left (ident ∷ idents) rs =
      let later = count_left idents (without ident rs) in
      let first : count_by p (without ident rs) ≤ count_by p rs = count_by-filter p (λ (r : Resident). not (is_same r.ident ident)) rs in
      omega arith

  -- and fewer, where one that counts is among them
  pub count_left_one : (idents : List Ident) (rs : List Resident) (r : Resident) → Contains rs r → p r ≡ true → Contains idents r.ident → count_by p (without_all idents rs) + 1 ≤ count_by p rs
  count_left_one [] rs r there counts gone = absurd (contains_nothing r.ident gone)
  count_left_one (ident ∷ idents) rs r there counts gone = elim (cases_Bool (is_same r.ident ident)) [
    | inl same ↦
        let later = count_left idents (without ident rs) in
        let first : count_by p (without ident rs) + 1 ≤ count_by p rs = count_dropped p (λ (x : Resident). not (is_same x.ident ident)) rs r there counts (ap not same) in
        omega arith
    | inr differs ↦ elim (Contains-cases ident idents r.ident gone) [
      | inl is ↦ absurd (other_ident r.ident ident differs (sym is))
      | inr behind ↦
          let later = count_left_one idents (without ident rs) r (stays_without ident rs r there (other_ident r.ident ident differs)) counts behind in
          let first : count_by p (without ident rs) ≤ count_by p rs = count_by-filter p (λ (x : Resident). not (is_same x.ident ident)) rs in
          omega arith
    ]
  ]

-- what is resident, by kind
pub length_by_kind : (rs : List Resident) → length rs ≡ count_of rs kind.Kernel + count_of rs kind.Space + count_of rs kind.Thread + count_of rs kind.Mapping
length_by_kind [] = refl
length_by_kind (r ∷ rs) =
    let k : count_of (r ∷ rs) kind.Kernel ≡ cond (is_kind r.ident.kind kind.Kernel) 1 0 + count_of rs kind.Kernel = count_by-cons (λ (x : Resident). is_kind x.ident.kind kind.Kernel) r rs in
    let s : count_of (r ∷ rs) kind.Space ≡ cond (is_kind r.ident.kind kind.Space) 1 0 + count_of rs kind.Space = count_by-cons (λ (x : Resident). is_kind x.ident.kind kind.Space) r rs in
    let t : count_of (r ∷ rs) kind.Thread ≡ cond (is_kind r.ident.kind kind.Thread) 1 0 + count_of rs kind.Thread = count_by-cons (λ (x : Resident). is_kind x.ident.kind kind.Thread) r rs in
    let m : count_of (r ∷ rs) kind.Mapping ≡ cond (is_kind r.ident.kind kind.Mapping) 1 0 + count_of rs kind.Mapping = count_by-cons (λ (x : Resident). is_kind x.ident.kind kind.Mapping) r rs in
    let one = by r.ident.kind in
    let later = length_by_kind rs in
    omega arith
  where
    by : (k : Kind) → cond (is_kind k kind.Kernel) 1 0 + cond (is_kind k kind.Space) 1 0 + cond (is_kind k kind.Thread) 1 0 + cond (is_kind k kind.Mapping) 1 0 ≡ 1
    by kind.Kernel = refl
    by kind.Space = refl
    by kind.Thread = refl
    by kind.Mapping = refl
