-- Lists in which each name stands once.
use Rattle.std.proofs.Common.{◌≡◌, ◌≢◌, ℕ, zero, suc, ◌+◌, ◌≤◌, Bool, true, false, List, [], ◌∷◌, ◌++◌, length, filter, take, Contains, Some, slice_get, refl, sym, ◌∙◌, ap, subst, ◌⊎◌, inl, inr, arith}
use Rattle.std.specs.Prelude.{if◌then◌else◌}
use Rattle.std.proofs.lemmas.Bool.{cases_Bool, false≢true}
use Rattle.std.proofs.lemmas.List.{append-nil}
use Rattle.std.proofs.lemmas.List.Elements.{Contains-append_cases, Contains-append_left, Contains-append_right, Contains-push_cases}
use Rattle.cached_machine.specs.flat_laws.proofs.Members.{Contains-behind, Contains-cases, Contains-filter, Contains-here, contains_nothing}
use Rattle.cache_ident.specs.declared.names.Name.{Name}
use Rattle.cached_machine.specs.kind_store.specs.Changes.{is_name}
use Rattle.cached_machine.specs.owner_shelf.proofs.NameLemmas.{eq_itself, same_by_eq}
use Rattle.board_chains.specs.Lists.{has, with_also, AreAllOnce}

-- ---- whether a name is there

pub has_there : (names : List Name) (name : Name) → has names name ≡ true → Contains names name
has_there [] name is = absurd (false≢true is)
has_there (other ∷ names) name is = elim (cases_Bool (is_name other name)) [
  | inl first ↦ subst (λ (x : Name). Contains (x ∷ names) name) (sym (same_by_eq other name first)) (Contains-here name names)
  | inr past ↦ Contains-behind other names name (has_there names name (rw past at is))
]

pub has_not : (names : List Name) (name : Name) → has names name ≡ false → Contains names name → ⊥
has_not [] name is there = contains_nothing name there
has_not (other ∷ names) name is there = elim (cases_Bool (is_name other name)) [
  | inl first ↦ false≢true (sym (rw first at is))
  | inr past ↦ elim (Contains-cases other names name there) [
    | inl same ↦ false≢true (sym past ∙ ap (λ (x : Name). is_name x name) same ∙ eq_itself name)
    | inr later ↦ has_not names name (rw past at is) later
  ]
]

-- ---- once

pub apart_push : (names : List Name) (name : Name) → AreAllOnce names → (Contains names name → ⊥) → AreAllOnce (names ++ name ∷ [])
apart_push [] name apart fresh = (λ there. contains_nothing name there, tt)
apart_push (x ∷ names) name apart fresh = (
  λ there. elim (Contains-push_cases names name x there) [
    | inl before ↦ apart.0 before
    | inr same ↦ fresh (subst (Contains (x ∷ names)) (sym same) (Contains-here x names))
  ],
  apart_push names name apart.1 (λ there. fresh (Contains-behind x names name there)),
)

pub apart_append : (names others : List Name) → AreAllOnce names → AreAllOnce others → ((name : Name) → Contains names name → Contains others name → ⊥) → AreAllOnce (names ++ others)
apart_append [] others apart rest none = rest
apart_append (x ∷ names) others apart rest none = (
  λ there. elim (Contains-append_cases names others x there) [
    | inl before ↦ apart.0 before
    | inr behind ↦ none x (Contains-here x names) behind
  ],
  apart_append names others apart.1 rest (λ name there. none name (Contains-behind x names name there)),
)

pub apart_filter : (p : Name → Bool) (names : List Name) → AreAllOnce names → AreAllOnce (filter p names)
apart_filter p [] apart = tt
apart_filter p (x ∷ names) apart = elim (cases_Bool (p x)) [
  | inl kept ↦ rw kept ((λ there. apart.0 (Contains-filter p names x there).0, apart_filter p names apart.1))
  | inr dropped ↦ rw dropped (apart_filter p names apart.1)
]

-- the first of them stand once
pub apart_first : (names others : List Name) → AreAllOnce (names ++ others) → AreAllOnce names
apart_first [] others apart = tt
apart_first (x ∷ names) others apart = (λ there. apart.0 (Contains-append_left names others x there), apart_first names others apart.1)

-- what stands at one place doesn't stand before it
pub apart_before : (names : List Name) (at : ℕ) (name : Name) → AreAllOnce names → slice_get names at ≡ Some name → Contains (take at names) name → ⊥
apart_before [] at name apart there before = absurd (cc)
apart_before (x ∷ names) zero name apart there before = contains_nothing name before
apart_before (x ∷ names) (suc at) name apart there before = elim (Contains-cases x (take at names) name before) [
  | inl same ↦ apart.0 (subst (Contains names) (sym same) (place_there names at name there))
  | inr later ↦ apart_before names at name apart.1 there later
]
  where
    place_there : (xs : List Name) (k : ℕ) (y : Name) → slice_get xs k ≡ Some y → Contains xs y
    place_there [] k y is = absurd (cc)
    place_there (z ∷ xs) zero y is = subst (λ (w : Name). Contains (w ∷ xs) y) (sym (by z y is)) (Contains-here y xs)
      where
        by : (a b : Name) → Some a ≡ Some b → a ≡ b
        by a b e = cc
    place_there (z ∷ xs) (suc k) y is = Contains-behind z xs y (place_there xs k y is)

-- ---- how many there are

-- a list without an element has one less, and all others
taken_out : (names : List Name) (x : Name) → Contains names x → (rest : List Name) × (length names ≡ length rest + 1) × ((y : Name) → Contains names y → y ≢ x → Contains rest y)
taken_out [] x there = absurd (contains_nothing x there)
taken_out (z ∷ names) x there = elim (Contains-cases z names x there) [
  | inl same ↦ (
    names,
    omega arith,
    λ y in_all other. elim (Contains-cases z names y in_all) [
      | inl is ↦ absurd (other (sym is ∙ same))
      | inr behind ↦ behind
    ],
  )
  | inr later ↦
      let t = taken_out names x later in
      let less = t.1 in (
        z ∷ t.0,
        omega arith,
        λ y in_all other. elim (Contains-cases z names y in_all) [
          | inl is ↦ subst (Contains (z ∷ t.0)) is (Contains-here z t.0)
          | inr behind ↦ Contains-behind z t.0 y (t.2 y behind other)
        ],
      )
]

-- what is in a list, each once, is no more than the list has
pub fits_in : (names all : List Name) → AreAllOnce names → ((x : Name) → Contains names x → Contains all x) → length names ≤ length all
fits_in [] all apart within = omega arith
fits_in (x ∷ names) all apart within =
    let t = taken_out all x (within x (Contains-here x names)) in
    let rest = fits_in names t.0 apart.1 (λ y there. t.2 y (within y (Contains-behind x names y there)) (λ same. apart.0 (subst (Contains names) same there))) in
    let less = t.1 in
    omega arith

-- ---- one more, if it isn't there

module _ (names : List Name) (name : Name) where
  pub also_by : (P : List Name → Type 0) → (Contains names name → P names) → ((Contains names name → ⊥) → P (names ++ name ∷ [])) → P (with_also names name)
  also_by P there fresh = by (has names name) refl
    where
      by : (b : Bool) → has names name ≡ b → P (if b then names else names ++ name ∷ [])
      by true is = there (has_there names name is)
      by false is = fresh (has_not names name is)

  pub also_there : Contains (with_also names name) name
  also_there = also_by (λ (xs : List Name). Contains xs name) (λ there. there) (λ fresh. Contains-append_right names (name ∷ []) name (Contains-here name []))

  pub also_stays : (other : Name) → Contains names other → Contains (with_also names name) other
  also_stays other there = also_by (λ (xs : List Name). Contains xs other) (λ here. there) (λ fresh. Contains-append_left names (name ∷ []) other there)

  pub also_cases : (other : Name) → Contains (with_also names name) other → Contains names other ⊎ (name ≡ other)
  also_cases = also_by (λ (xs : List Name). (other : Name) → Contains xs other → Contains names other ⊎ (name ≡ other)) (λ here other there. inl there) (λ fresh other there. Contains-push_cases names name other there)

  pub also_starts : (more : List Name) × (with_also names name ≡ names ++ more)
  also_starts = also_by (λ (xs : List Name). (more : List Name) × (xs ≡ names ++ more)) (λ there. ([], sym (append-nil names))) (λ fresh. (name ∷ [], refl))

  pub also_apart : AreAllOnce names → AreAllOnce (with_also names name)
  also_apart apart = also_by AreAllOnce (λ there. apart) (λ fresh. apart_push names name apart fresh)
