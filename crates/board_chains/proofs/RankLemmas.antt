-- Names in order.
use Rattle.std.proofs.Common.{◌≡◌, ◌≢◌, ◌↔◌, ℕ, zero, suc, ◌+◌, ◌<◌, ◌≤◌, true, false, List, [], ◌∷◌, length, take, get_or, Contains, Some, slice_get, refl, sym, ◌∙◌, ap, subst, ◌⊎◌, inl, inr, arith}
use Rattle.std.specs.List.{insert}
use Rattle.std.proofs.lemmas.Bool.{false≢true}
use Rattle.std.proofs.lemmas.List.{take_more}
use Rattle.std.proofs.lemmas.List.Elements.{Contains-append_left, Contains-append_right, Contains-push_cases}
use Rattle.std.proofs.lemmas.Option.{same_Some, slice_get_within}
use Rattle.flat_state.proofs.Places.{Contains-from_get}
use Rattle.cached_machine.specs.flat_laws.proofs.Members.{Contains-behind, Contains-cases, Contains-here, contains_nothing}
use Rattle.cache_ident.specs.declared.names.KernelNo.{KernelNo}
use Rattle.cache_ident.specs.declared.names.Name.{Name}
use Rattle.cache_ident.specs.declared.names.Name.TheVariants.{Kernel, Space, Thread, Mapping}
use Rattle.cache_ident.proofs.Numbers.{same_space, same_thread}
use Rattle.board_chains.specs.Lists.{AreAllOnce}
use Rattle.board_chains.specs.Ranks.{is_row, number_of, rank_of, AreInOrder, IsBefore}

pub before_so : (a b c : Name) → IsBefore a b → IsBefore b c → IsBefore a c
before_so a b c first second = elim first [
  | inl below ↦ elim second [
    | inl lower ↦ inl (omega (arith, below, lower))
    | inr level ↦ inl (let same = level.0 in omega (arith, below, same))
  ]
  | inr same ↦ elim second [
    | inl lower ↦ inl (let is = same.0 in omega (arith, is, lower))
    | inr level ↦ let is = same.0 in let lt = same.1 in let equal = level.0 in let more = level.1 in inr (omega (arith, is, equal), omega (arith, lt, more))
  ]
]

pub not_before_itself : (a : Name) → IsBefore a a → ⊥
not_before_itself a before = elim before [
  | inl below ↦ omega (arith, below)
  | inr level ↦ let lt = level.1 in omega (arith, lt)
]

same_kernel : (a b : KernelNo) → a.0 ≡ b.0 → a ≡ b
same_kernel a b e = ap (λ (n : ℕ). let x : KernelNo = record { 0 = n } in x) e

-- two names of one rank and number are one, if they aren't those of rows
same_place : (a b : Name) → is_row a ≡ false → rank_of a ≡ rank_of b → number_of a ≡ number_of b → a ≡ b
same_place (Kernel a) (Kernel b) plain rank number = ap Kernel (same_kernel a b number)
same_place (Space a) (Space b) plain rank number = ap Space (same_space a b number)
same_place (Thread a) (Thread b) plain rank number = ap Thread (same_thread a b number)
same_place (Mapping space vpn) b plain rank number = absurd (cc)
same_place (Kernel a) (Space b) plain rank number = absurd (omega (arith, rank))
same_place (Kernel a) (Thread b) plain rank number = absurd (omega (arith, rank))
same_place (Kernel a) (Mapping space vpn) plain rank number = absurd (omega (arith, rank))
same_place (Space a) (Kernel b) plain rank number = absurd (omega (arith, rank))
same_place (Space a) (Thread b) plain rank number = absurd (omega (arith, rank))
same_place (Space a) (Mapping space vpn) plain rank number = absurd (omega (arith, rank))
same_place (Thread a) (Kernel b) plain rank number = absurd (omega (arith, rank))
same_place (Thread a) (Space b) plain rank number = absurd (omega (arith, rank))
same_place (Thread a) (Mapping space vpn) plain rank number = absurd (omega (arith, rank))

-- of two names one comes before the other
pub one_before : (a b : Name) → is_row a ≡ false → a ≢ b → (IsBefore a b → ⊥) → IsBefore b a
one_before a b plain other never = elim (three_way (rank_of a) (rank_of b)) [
  | inl less ↦ absurd (never (inl less))
  | inr rest ↦ elim rest [
    | inl more ↦ inl more
    | inr same ↦ elim (three_way (number_of a) (number_of b)) [
      | inl less ↦ absurd (never (inr (same, less)))
      | inr others ↦ elim others [
        | inl more ↦ inr (sym same, more)
        | inr equal ↦ absurd (other (same_place a b plain same equal))
      ]
    ]
  ]
]
  where
    three_way : (m n : ℕ) → (m < n) ⊎ ((n < m) ⊎ (m ≡ n))
    three_way zero zero = inr (inr refl)
    three_way zero (suc n) = inl (omega arith)
    three_way (suc m) zero = inr (inl (omega arith))
    three_way (suc m) (suc n) = elim (three_way m n) [
      | inl less ↦ inl (omega (arith, less))
      | inr rest ↦ elim rest [
        | inl more ↦ inr (inl (omega (arith, more)))
        | inr same ↦ inr (inr (ap suc same))
      ]
    ]

-- what is in order stands once
pub order_apart : (names : List Name) → AreInOrder names → AreAllOnce names
order_apart [] order = tt
order_apart (x ∷ names) order = (λ there. not_before_itself x (order.0 x there), order_apart names order.1)

-- ---- a name at its place

pub insert_cases : (names : List Name) (at : ℕ) (name other : Name) → Contains (insert names at name) other → Contains names other ⊎ (name ≡ other)
insert_cases names zero name other there = elim (Contains-cases name names other there) [
  | inl same ↦ inr same
  | inr behind ↦ inl behind
]
insert_cases [] (suc at) name other there = elim (Contains-cases name [] other there) [
  | inl same ↦ inr same
  | inr behind ↦ inl behind
]
insert_cases (x ∷ names) (suc at) name other there = elim (Contains-cases x (insert names at name) other there) [
  | inl same ↦ inl (subst (Contains (x ∷ names)) same (Contains-here x names))
  | inr later ↦ elim (insert_cases names at name other later) [
    | inl behind ↦ inl (Contains-behind x names other behind)
    | inr same ↦ inr same
  ]
]

pub insert_there : (names : List Name) (at : ℕ) (name : Name) → Contains (insert names at name) name
insert_there names zero name = Contains-here name names
insert_there [] (suc at) name = Contains-here name []
insert_there (x ∷ names) (suc at) name = Contains-behind x (insert names at name) name (insert_there names at name)

pub insert_stays : (names : List Name) (at : ℕ) (name other : Name) → Contains names other → Contains (insert names at name) other
insert_stays names zero name other there = Contains-behind name names other there
insert_stays [] (suc at) name other there = absurd (contains_nothing other there)
insert_stays (x ∷ names) (suc at) name other there = elim (Contains-cases x names other there) [
  | inl same ↦ subst (Contains (x ∷ insert names at name)) same (Contains-here x (insert names at name))
  | inr behind ↦ Contains-behind x (insert names at name) other (insert_stays names at name other behind)
]

-- behind those that come before it, and before one that doesn't, it is in order
pub insert_order : (names : List Name) (at : ℕ) (name : Name) → AreInOrder names → ((k : ℕ) (d : Name) → k < at → IsBefore (get_or names k d) name) → ((other : Name) → slice_get names at ≡ Some other → IsBefore name other) → at ≤ length names → AreInOrder (insert names at name)
insert_order [] zero name order before behind within = (λ other there. absurd (contains_nothing other there), tt)
insert_order (x ∷ names) zero name order before behind within =
    let first = behind x refl in (
      λ other there. elim (Contains-cases x names other there) [
        | inl same ↦ subst (IsBefore name) same first
        | inr later ↦ before_so name x other first (order.0 other later)
      ],
      order,
    )
insert_order [] (suc at) name order before behind within = absurd (omega (arith, within))
insert_order (x ∷ names) (suc at) name order before behind within = (
  λ other there. elim (insert_cases names at name other there) [
    | inl later ↦ order.0 other later
    | inr same ↦ subst (IsBefore x) same (before 0 x (omega arith))
  ],
  insert_order names at name order.1 (λ k d lt. before (suc k) d (omega (arith, lt))) behind (omega (arith, within)),
)

-- ---- where the search for its place ends

pub next_is_behind : (names : List Name) (name : Name) → ((other : Name) → Contains names other → is_row other ≡ false) → (Contains names name → ⊥) → (at : ℕ) (found : Name) → slice_get names at ≡ Some found → (IsBefore found name → ⊥) → (other : Name) → slice_get names at ≡ Some other → IsBefore name other
next_is_behind names name plain fresh at found is never other also =
    let same : found ≡ other = same_Some found other (sym is ∙ also) in
    let there = Contains-from_get names at found is in
    subst (IsBefore name) same (one_before found name (plain found there) (λ equal. fresh (subst (Contains names) equal there)) never)

pub none_behind : (names : List Name) (name : Name) (at : ℕ) → length names ≤ at → (other : Name) → slice_get names at ≡ Some other → IsBefore name other
none_behind names name at all other also = let lt = slice_get_within names at other also in absurd (omega arith)

-- ---- the names of a list that are no row's

module _ (names old new : List Name) (i : ℕ) (d : Name) (within : i < length names) (before : (name : Name) → Contains old name ↔ (Contains (take i names) name × (is_row name ≡ false))) where
  abbrev it : Name
  it = get_or names i d

  more_there : (name : Name) → Contains (take i names) name → Contains (take (i + 1) names) name
  more_there name there = rw (take_more names i d within) (Contains-append_left (take i names) (it ∷ []) name there)

  more_cases : (name : Name) → Contains (take (i + 1) names) name → Contains (take i names) name ⊎ (it ≡ name)
  more_cases name there = Contains-push_cases (take i names) it name (rw (take_more names i d within) at there)

  pub numbered_more : is_row it ≡ false → ((name : Name) → Contains new name ↔ (Contains old name ⊎ (it ≡ name))) → (name : Name) → Contains new name ↔ (Contains (take (i + 1) names) name × (is_row name ≡ false))
  numbered_more plain also name = (
    λ there. elim ((also name).0 there) [
      | inl early ↦ let its = (before name).0 early in (more_there name its.0, its.1)
      | inr same ↦ (subst (Contains (take (i + 1) names)) same (rw (take_more names i d within) (Contains-append_right (take i names) (it ∷ []) it (Contains-here it []))), subst (λ (x : Name). is_row x ≡ false) same plain)
    ],
    λ its. (also name).1 (elim (more_cases name its.0) [
      | inl early ↦ inl ((before name).1 (early, its.1))
      | inr same ↦ inr same
    ]),
  )

  pub numbered_same : is_row it ≡ true → (name : Name) → Contains old name ↔ (Contains (take (i + 1) names) name × (is_row name ≡ false))
  numbered_same row name = (
    λ there. let its = (before name).0 there in (more_there name its.0, its.1),
    λ its. elim (more_cases name its.0) [
      | inl early ↦ (before name).1 (early, its.1)
      | inr same ↦ absurd (false≢true (sym its.1 ∙ ap is_row (sym same) ∙ row))
    ],
  )
