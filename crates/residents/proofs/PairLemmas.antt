-- Which pairs of a key and a name there are after a change, and which is the first of a key.
use Rattle.std.proofs.Common.{◌≡◌, ◌≢◌, ◌↔◌, ◌⊎◌, ℕ, ◌+◌, ◌<◌, Bool, true, false, List, length, get_or, Contains, refl, ap, sym, ◌∙◌, inl, inr, arith}
use Rattle.std.proofs.lemmas.Bool.{cases_lt, false≢true}
use Rattle.std.specs.BTreeMap.{is_at}
use Rattle.std.specs.BTreeSet.{BTreeSet, contains}
use Rattle.std.specs.Cmp.{IsTotalOrder}
use Rattle.std.specs.declared.cmp.Ordering.{Ordering}
use Rattle.std.specs.declared.cmp.Ordering.TheVariants.{Less, Equal, Greater}
use Rattle.std.specs.Ordering.{is_gt, ordering_reverse, ordering_then}
use Rattle.std.proofs.lemmas.Bool.Decides.{nat_tests}
use Rattle.std.proofs.lemmas.Cmp.{tied_itself}
use Rattle.cache_ident.specs.declared.names.Name.{Name}
use Rattle.cache_ident.specs.declared.names.Name.TheVariants.{Kernel, Space, Thread, Mapping}
use Rattle.residents.proofs.NameLemmas.{name_cmp, same_name, name_itself, at_other, one_or_other, then_equal, then_not_greater}

-- ---- the first pair of a key

neither : (o : Ordering) → is_gt o ≡ false → is_gt (ordering_reverse o) ≡ false → o ≡ Equal
neither Less low high = absurd (cc)
neither Equal low high = refl
neither Greater low high = absurd (cc)

-- no name is before the first kernel's
abbrev pub least : Name
least = Kernel (record { 0 = 0 })

least_name : (child : Name) → is_gt (name_cmp least child) ≡ false
least_name (Kernel kernel) = grind (arith, nat_tests)
least_name (Space space) = refl
least_name (Thread thread) = refl
least_name (Mapping space vpn) = refl

-- ---- pairs

module _ {K : Type 0} (cmp : K → K → Ordering) (exact : (a b : K) → cmp a b ≡ Equal → a ≡ b) (total : IsTotalOrder cmp) where
  -- by key, and then by name
  abbrev pub paired : K × Name → K × Name → Ordering
  paired a b = ordering_then (cmp a.0 b.0) (name_cmp a.1 b.1)

  same_pair : (a b : K × Name) → paired a b ≡ Equal → a ≡ b
  same_pair a b equal =
      let both = then_equal (cmp a.0 b.0) (name_cmp a.1 b.1) equal in
      ap (λ (n : K). (n, a.1)) (exact a.0 b.0 both.0) ∙ ap (λ (n : Name). (b.0, n)) (same_name a.1 b.1 both.1)

  pair_itself : (a : K × Name) → paired a a ≡ Equal
  pair_itself a = rw (tied_itself total a.0) (name_itself a.1)

  pair_or : (q k : K × Name) → (q ≡ k) ⊎ (q ≢ k)
  pair_or = one_or_other paired same_pair pair_itself

  pub other_pair : (k q : K × Name) → q ≢ k → is_at (paired k) q ≡ false
  other_pair = at_other paired same_pair

  pub least_pair : (parent : K) (child : Name) → is_gt (paired (parent, least) (parent, child)) ≡ false
  least_pair parent child = rw (tied_itself total parent) (least_name child)

  -- what comes first from the least pair of a key on is a pair of that key, where there is one
  pub first_pair : (parent : K) (child : Name) (pair : K × Name) → is_gt (paired (parent, least) pair) ≡ false → is_gt (paired pair (parent, child)) ≡ false → pair.0 ≡ parent
  first_pair parent child pair from first =
      let low = then_not_greater (cmp pair.0 parent) (name_cmp pair.1 child) first in
      let high = then_not_greater (cmp parent pair.0) (name_cmp least pair.1) from in
      exact pair.0 parent (neither (cmp pair.0 parent) low (ap is_gt (sym (total.antisymm parent pair.0)) ∙ high))

  abbrev pub HasPair : BTreeSet (K × Name) → K → Name → Type 0
  HasPair pairs parent child = contains paired pairs (parent, child) ≡ true

  -- the key is one of the first so many
  abbrev pub IsAmong : List K → ℕ → K → Type 0
  IsAmong parents n parent = (i : ℕ) × (i < n) × (i < length parents) × (get_or parents i parent ≡ parent)

  -- the pairs once the name has so many of the keys
  abbrev pub AreAdded : BTreeSet (K × Name) → BTreeSet (K × Name) → Name → List K → ℕ → Type 0
  AreAdded old new child parents n = (parent : K) (other : Name) → HasPair new parent other ↔ (HasPair old parent other ⊎ ((other ≡ child) × IsAmong parents n parent))

  abbrev pub AreRemoved : BTreeSet (K × Name) → BTreeSet (K × Name) → Name → List K → ℕ → Type 0
  AreRemoved old new child parents n = (parent : K) (other : Name) → HasPair new parent other ↔ (HasPair old parent other × (((other ≡ child) × IsAmong parents n parent) → ⊥))

  -- a set with or without one pair
  pub record Sets (old new : BTreeSet (K × Name)) (pair : K × Name) (now : Bool) : Type 0 where
    pub here : contains paired new pair ≡ now
    pub others : (q : K × Name) → q ≢ pair → contains paired new q ≡ contains paired old q

  more : (parents : List K) (n : ℕ) (parent : K) → IsAmong parents n parent → IsAmong parents (n + 1) parent
  more parents n parent among = (among.0, omega (arith, among.1), among.2, among.3)

  -- the keys but for the last one are those before it
  fewer : (parents : List K) (n : ℕ) (x parent : K) → ((d : K) → get_or parents n d ≡ x) → IsAmong parents (n + 1) parent → parent ≢ x → IsAmong parents n parent
  fewer parents n x parent is among other = (
    among.0,
    elim (cases_lt among.0 n) [
      | inl below ↦ below
      | inr above ↦ absurd (let same : among.0 ≡ n = omega (arith, among.1) in other (sym among.3 ∙ ap (λ (k : ℕ). get_or parents k parent) same ∙ is parent))
    ],
    among.2,
    among.3,
  )

  pub added_none : (old : BTreeSet (K × Name)) (child : Name) (parents : List K) → AreAdded old old child parents 0
  added_none old child parents parent other = (λ pair. inl pair, λ either. elim either [ inl pair ↦ pair | inr one ↦ absurd (let low = one.1.1 in omega arith) ])

  pub removed_none : (old : BTreeSet (K × Name)) (child : Name) (parents : List K) → AreRemoved old old child parents 0
  removed_none old child parents parent other = (λ pair. (pair, λ one. let low = one.1.1 in omega arith), λ both. both.0)

  -- what stands at a place of a list

  module _ (old mid new : BTreeSet (K × Name)) (child : Name) (parents : List K) (n : ℕ) (within : n < length parents) (x : K) (is : (d : K) → get_or parents n d ≡ x) where
    apart : (parent : K) (other : Name) → ◌≢◌ {A = K × Name} (parent, other) (x, child) → other ≡ child → parent ≢ x
    apart parent other off same_child same = off (ap (λ (p : K). (p, other)) same ∙ ap (λ (c : Name). (x, c)) same_child)

    last : (parent : K) → parent ≡ x → IsAmong parents (n + 1) parent
    last parent same = (n, omega arith, within, is parent ∙ sym same)

    pub added_more : Sets mid new (x, child) true → AreAdded old mid child parents n → AreAdded old new child parents (n + 1)
    added_more sets before parent other = (
      λ pair. elim (pair_or (parent, other) (x, child)) [
        | inl same ↦ inr (ap (λ (p : K × Name). p.1) same, last parent (ap (λ (p : K × Name). p.0) same))
        | inr off ↦ elim ((before parent other).0 (sym (sets.others (parent, other) off) ∙ pair)) [
          | inl was ↦ inl was
          | inr one ↦ inr (one.0, more parents n parent one.1)
        ]
      ],
      λ either. elim (pair_or (parent, other) (x, child)) [
        | inl same ↦ ap (contains paired new) same ∙ sets.here
        | inr off ↦ sets.others (parent, other) off ∙ (before parent other).1 (elim either [
          | inl was ↦ inl was
          | inr one ↦ inr (one.0, fewer parents n x parent is one.1 (apart parent other off one.0))
        ])
      ],
    )

    pub removed_more : Sets mid new (x, child) false → AreRemoved old mid child parents n → AreRemoved old new child parents (n + 1)
    removed_more sets before parent other = (
      λ pair. elim (pair_or (parent, other) (x, child)) [
        | inl same ↦ absurd (false≢true (sym sets.here ∙ ap (contains paired new) (sym same) ∙ pair))
        | inr off ↦ let was = (before parent other).0 (sym (sets.others (parent, other) off) ∙ pair) in
            (was.0, λ one. was.1 (one.0, fewer parents n x parent is one.1 (apart parent other off one.0)))
      ],
      λ both. elim (pair_or (parent, other) (x, child)) [
        | inl same ↦ absurd (both.1 (ap (λ (p : K × Name). p.1) same, last parent (ap (λ (p : K × Name). p.0) same)))
        | inr off ↦ sets.others (parent, other) off ∙ (before parent other).1 (both.0, λ one. both.1 (one.0, more parents n parent one.1))
      ],
    )

  -- the keys among all of them are those that the list contains
  among_all : (parents : List K) (parent : K) → Contains parents parent ↔ IsAmong parents (length parents) parent
  among_all parents parent = (λ there. (there.0, there.1, there.1, there.2), λ among. (among.0, among.2, among.3))

  pub all_added : (old new : BTreeSet (K × Name)) (child : Name) (parents : List K) → AreAdded old new child parents (length parents) → (parent : K) (other : Name) → HasPair new parent other ↔ (HasPair old parent other ⊎ ((other ≡ child) × Contains parents parent))
  all_added old new child parents added parent other = (
    λ pair. elim ((added parent other).0 pair) [ inl was ↦ inl was | inr one ↦ inr (one.0, (among_all parents parent).1 one.1) ],
    λ either. (added parent other).1 (elim either [ inl was ↦ inl was | inr one ↦ inr (one.0, (among_all parents parent).0 one.1) ]),
  )

  pub all_removed : (old new : BTreeSet (K × Name)) (child : Name) (parents : List K) → AreRemoved old new child parents (length parents) → (parent : K) (other : Name) → HasPair new parent other ↔ (HasPair old parent other × (((other ≡ child) × Contains parents parent) → ⊥))
  all_removed old new child parents removed parent other = (
    λ pair. let was = (removed parent other).0 pair in (was.0, λ one. was.1 (one.0, (among_all parents parent).0 one.1)),
    λ both. (removed parent other).1 (both.0, λ one. both.1 (one.0, (among_all parents parent).1 one.1)),
  )
