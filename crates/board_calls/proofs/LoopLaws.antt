-- Lists that grow by those of some that pass a test.
use Rattle.std.proofs.Common.{◌≡◌, ◌↔◌, ℕ, ◌+◌, ◌*◌, Bool, true, false, List, [], ◌∷◌, ◌++◌, Contains, refl, sym, ◌∙◌, ap, subst, ◌⊎◌, inl, inr, arith}
use Rattle.std.specs.Prelude.{Option, None}
use Rattle.std.specs.Iterator.{Yields, YieldsFirst}
use Rattle.std.specs.List.{list_any}
use Rattle.std.proofs.lemmas.Bool.{cases_eq, false≢true, or_cases, or_parts}
use Rattle.std.proofs.lemmas.Iterator.Consumers.{YieldsList-end, YieldsList-from_first}
use Rattle.std.proofs.lemmas.List.{map-id}
use Rattle.std.proofs.lemmas.List.Elements.{Contains-append_left, Contains-push, Contains-push_cases}
use Rattle.cache_ident.specs.declared.idents.Ident.{Ident}
use Rattle.board_checks.specs.flat_laws.proofs.Members.{Contains-behind, Contains-cases, Contains-here, contains_nothing}
use Rattle.cache_ident.specs.declared.names.Frame.{Frame}
use Rattle.board_core.specs.cached_machine.specs.Cached.{Cached}
use Rattle.board_calls.specs.declared.leaving.Grant.{Grant}
use Rattle.board_calls.specs.Leaving.{AddsThose, IsOf, IsRowGoing, IsRowInGroup}

-- ---- a loop over an iterator of a list

-- in the end each came
pub each_came : {X : Type 0} (all start : List X) (are : start ≡ all) (gone left : List X) (yielded : Yields (YieldsFirst (λ (left : List X). left)) start gone left) (item : Option X) (rest : List X) (next : YieldsFirst (λ (left : List X). left) left item rest) → item ≡ None → gone ≡ all
each_came {X} all start are gone left yielded item rest next none = sym (map-id gone) ∙ (YieldsList-end (YieldsList-from_first (λ (x : X). x) (λ (left : List X). left) all are) gone left yielded item rest none next).0

-- ---- what was added

-- nothing
pub adds_nothing : (P : Ident → Type 0) (old : List Ident) → ((i : Ident) → P i → ⊥) → AddsThose P old old
adds_nothing P old never i = (
  λ there. inl there,
  λ which. elim which [
    | inl there ↦ there
    | inr new ↦ absurd (never i new)
  ],
)

-- one
pub adds_one : (P : Ident → Type 0) (old : List Ident) (x : Ident) → P x → ((i : Ident) → P i → x ≡ i) → AddsThose P old (old ++ x ∷ [])
adds_one P old x its only i = (
  λ there. elim (Contains-push_cases old x i there) [
    | inl earlier ↦ inl earlier
    | inr same ↦ inr (subst P same its)
  ],
  λ which. elim which [
    | inl there ↦ Contains-append_left old (x ∷ []) i there
    | inr new ↦ subst (λ (j : Ident). Contains (old ++ x ∷ []) j) (only i new) (Contains-push old x)
  ],
)

-- the same said in other words
pub adds_as : (P Q : Ident → Type 0) (old new : List Ident) → ((i : Ident) → P i ↔ Q i) → AddsThose P old new → AddsThose Q old new
adds_as P Q old new same adds i = (
  λ there. elim ((adds i).0 there) [
    | inl was ↦ inl was
    | inr its ↦ inr ((same i).0 its)
  ],
  λ which. elim which [
    | inl was ↦ (adds i).1 (inl was)
    | inr its ↦ (adds i).1 (inr ((same i).1 its))
  ],
)

-- some, and then others
pub adds_more : (P Q R : Ident → Type 0) (old mid new : List Ident) → ((i : Ident) → R i ↔ (P i ⊎ Q i)) → AddsThose P old mid → AddsThose Q mid new → AddsThose R old new
adds_more P Q R old mid new both first second i = (
  λ there. elim ((second i).0 there) [
    | inl was ↦ elim ((first i).0 was) [
      | inl earlier ↦ inl earlier
      | inr its ↦ inr ((both i).1 (inl its))
    ]
    | inr its ↦ inr ((both i).1 (inr its))
  ],
  λ which. elim which [
    | inl earlier ↦ (second i).1 (inl ((first i).1 (inl earlier)))
    | inr its ↦ elim ((both i).0 its) [
      | inl one ↦ (second i).1 (inl ((first i).1 (inr one)))
      | inr two ↦ (second i).1 (inr two)
    ]
  ],
)

-- those of a list that pass a test
module _ (test : Ident → Bool) where
  pub passing_first : (old : List Ident) → AddsThose (IsOf test []) old old
  passing_first old = adds_nothing (IsOf test []) old (λ i its. contains_nothing i its.0)

  -- with one more that passes
  pub passing_one : (gone old mid : List Ident) (x : Ident) → test x ≡ true → AddsThose (IsOf test gone) old mid → AddsThose (IsOf test (gone ++ x ∷ [])) old (mid ++ x ∷ [])
  passing_one gone old mid x is before =
      adds_more (IsOf test gone) (λ i. x ≡ i) (IsOf test (gone ++ x ∷ [])) old mid (mid ++ x ∷ [])
      (λ i. (
        λ its. elim (Contains-push_cases gone x i its.0) [
          | inl earlier ↦ inl (earlier, its.1)
          | inr same ↦ inr same
        ],
        λ which. elim which [
          | inl its ↦ (Contains-append_left gone (x ∷ []) i its.0, its.1)
          | inr same ↦ subst (λ (j : Ident). IsOf test (gone ++ x ∷ []) j) same (Contains-push gone x, is)
        ],
      ))
      before (adds_one (λ i. x ≡ i) mid x refl (λ i same. same))

  -- with one more that doesn't
  pub passing_past : (gone old mid : List Ident) (x : Ident) → test x ≡ false → AddsThose (IsOf test gone) old mid → AddsThose (IsOf test (gone ++ x ∷ [])) old mid
  passing_past gone old mid x past =
      adds_as (IsOf test gone) (IsOf test (gone ++ x ∷ [])) old mid
      (λ i. (
        λ its. (Contains-append_left gone (x ∷ []) i its.0, its.1),
        λ its. elim (Contains-push_cases gone x i its.0) [
          | inl earlier ↦ (earlier, its.1)
          | inr same ↦ absurd (false≢true (sym past ∙ ap test same ∙ its.1))
        ],
      ))

-- ---- tests of lists

module _ {X : Type 0} (p : X → Bool) where
  pub any_of : (xs : List X) → list_any p xs ≡ true → (x : X) × Contains xs x × (p x ≡ true)
  any_of [] is = absurd (false≢true is)
  any_of (x ∷ xs) is = elim (or_cases (p x) (list_any p xs) is) [
    | inl here ↦ (x, Contains-here x xs, here)
    | inr behind ↦ let rest = any_of xs behind in (rest.0, Contains-behind x xs rest.0 rest.1, rest.2)
  ]

  pub none_of : (xs : List X) → list_any p xs ≡ false → (x : X) → Contains xs x → p x ≡ false
  none_of [] is x there = absurd (contains_nothing x there)
  none_of (y ∷ ys) is x there =
      let each = or_parts (p y) (list_any p ys) is in
      elim (Contains-cases y ys x there) [
        | inl same ↦ sym (ap p same) ∙ each.0
        | inr behind ↦ none_of ys each.1 x behind
      ]

-- nothing is in an empty list alone
pub nothing_in : (xs : List Ident) → ((i : Ident) → Contains xs i → ⊥) → xs ≡ []
nothing_in [] never = refl
nothing_in (x ∷ xs) never = absurd (never x (Contains-here x xs))

-- what was added to nothing
pub adds_to_nothing : (P : Ident → Type 0) (old new : List Ident) → old ≡ [] → AddsThose P old new → (i : Ident) → Contains new i ↔ P i
adds_to_nothing P old new empty adds i = (
  λ there. elim ((adds i).0 there) [
    | inl was ↦ absurd (contains_nothing i (subst (λ (xs : List Ident). Contains xs i) empty was))
    | inr its ↦ its
  ],
  λ its. (adds i).1 (inr its),
)

-- ---- the frames of a group

module _ (m : Cached) (g : Grant) where
  abbrev frame_at : ℕ → Frame
  frame_at place = record { 0 = g.group * 128 + place }

  pub group_first : (old : List Ident) → AddsThose (IsRowInGroup m g 0) old old
  group_first old = adds_nothing (IsRowInGroup m g 0) old (λ i its. let low = its.1 in omega arith)

  pub group_more : (n : ℕ) (old mid new : List Ident) → AddsThose (IsRowInGroup m g n) old mid → AddsThose (IsRowGoing m g (frame_at n)) mid new → AddsThose (IsRowInGroup m g (n + 1)) old new
  group_more n old mid new before one =
      adds_more (IsRowInGroup m g n) (IsRowGoing m g (frame_at n)) (IsRowInGroup m g (n + 1)) old mid new
      (λ i. (
        λ its. elim (cases_eq its.0 n) [
          | inl same ↦ inr (subst (λ (place : ℕ). IsRowGoing m g (frame_at place) i) same its.2)
          | inr other ↦ inl (its.0, let low = its.1 in omega arith, its.2)
        ],
        λ which. elim which [
          | inl its ↦ (its.0, let low = its.1 in omega arith, its.2)
          | inr its ↦ (n, omega arith, its)
        ],
      ))
      before one
