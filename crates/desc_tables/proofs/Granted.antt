-- How many of a kind are locked or kept, at most.
use Rattle.std.proofs.Common.{◌≡◌, ℕ, suc, ◌+◌, ◌<◌, ◌≤◌, Bool, true, false, cond, List, [], ◌∷◌, length, count_by, Contains, Option, Some, None, refl, ap, sym, ◌∙◌, subst, ◌⊎◌, inl, inr, arith}
use Rattle.std.specs.Prelude.{◌&&◌, ◌||◌, nat_le, slice_get}
use Rattle.std.specs.List.{sum_by}
use Rattle.std.proofs.lemmas.Bool.{and_from, and_parts, cases_eq, eq-eqb, false≢true, le-leb, leb-true, or_cases, or_left, or_right}
use Rattle.std.proofs.lemmas.List.Sums.{sum_by-cons}
use Rattle.cache_ident.specs.declared.idents.Ident.{Ident}
use Rattle.cache_ident.specs.declared.idents.Kind.{Kind}
use Rattle.cache_ident.specs.declared.idents.Kind.TheVariants as kind
use Rattle.cache_ident.specs.declared.names.KernelNo.{KernelNo}
use Rattle.cache_ident.specs.Names.{amount_of}
use Rattle.cache_ident.specs.Residents.{Resident}
use Rattle.cache_ident.specs.Rolls.{is_same}
use Rattle.cache_ident.proofs.RollLemmas.{is_same-refl, same_ident}
use Rattle.desc_groups.specs.flat_state.specs.declared.records.FlatKernel.{FlatKernel}
use Rattle.desc_groups.specs.flat_state.specs.State.{FlatState}
use Rattle.desc_groups.specs.flat_state.specs.Dependence.{owner}
use Rattle.desc_groups.specs.flat_state.specs.Declaration.{locks_granted}
use Rattle.desc_groups.specs.flat_state.proofs.Places.{count_by-cons}
use Rattle.desc_groups.specs.flat_laws.proofs.Members.{Contains-cases, contains_nothing}
use Rattle.desc_groups.specs.run_journal.specs.Legal.{count_of, is_kernel, is_kind, limits_in, locked_by}
use Rattle.desc_groups.specs.journal_laws.specs.Leaving.{AreApart}
use Rattle.desc_groups.specs.group_laws.proofs.Counting.{apart_behind, apart_first}
use Rattle.desc_tables.specs.May.{kept_of}
use Rattle.desc_tables.proofs.Counts.{count_either, count_narrow, count_nothing}

-- ---- locked

abbrev number : Option KernelNo → ℕ
number None = 0
number (Some kernel) = kernel.0

module _ (s : FlatState) (rs : List Resident) (of : Kind) where
  -- it is locked, of the kind, and no kernel with a lower number owns it
  abbrev locked_from : ℕ → Resident → Bool
  locked_from m r = r.locked && (is_kind r.ident.kind of && nat_le m (number (owner s r.name)))

  abbrev locked_at : KernelNo → Resident → Bool
  locked_at kernel r = r.locked && (is_kind r.ident.kind of && is_kernel kernel (owner s r.name))

  -- what that says
  three_parts : (m : ℕ) (r : Resident) → locked_from m r ≡ true → (r.locked ≡ true) × (is_kind r.ident.kind of ≡ true) × (nat_le m (number (owner s r.name)) ≡ true)
  three_parts m r counts =
      let locked = and_parts r.locked (is_kind r.ident.kind of && nat_le m (number (owner s r.name))) counts in
      let owned = and_parts (is_kind r.ident.kind of) (nat_le m (number (owner s r.name))) locked.1 in
      (locked.0, owned.0, owned.1)

  not_below : (m : ℕ) (r : Resident) (kernel : KernelNo) → owner s r.name ≡ Some kernel → locked_from m r ≡ true → m ≤ kernel.0
  not_below m r kernel owned counts = leb-true m kernel.0 (ap (λ o. nat_le m (number o)) (sym owned) ∙ (three_parts m r counts).2)

  -- it is the kernel's own, or that of one behind it
  this_or_later : (m : ℕ) (r : Resident) (kernel : KernelNo) → owner s r.name ≡ Some kernel → locked_from m r ≡ true → (locked_at (record { 0 = m }) r ≡ true) ⊎ (locked_from (m + 1) r ≡ true)
  this_or_later m r kernel owned counts =
      let parts = three_parts m r counts in
      let low = not_below m r kernel owned counts in
      elim (cases_eq kernel.0 m) [
        | inl same ↦ inl (and_from _ _ parts.0 (and_from _ _ parts.1 (ap (is_kernel (record { 0 = m })) owned ∙ eq-eqb kernel.0 m same)))
        | inr other ↦ inr (and_from _ _ parts.0 (and_from _ _ parts.1 (ap (λ o. nat_le (m + 1) (number o)) owned ∙ le-leb (m + 1) kernel.0 (omega (arith, low, other)))))
      ]

  -- the kernels from a number on have no more locked than their limits, summed
  locked_few : (ks : List FlatKernel) (m : ℕ) → ((r : Resident) → Contains rs r → (kernel : KernelNo) × (owner s r.name ≡ Some kernel) × (kernel.0 < m + length ks)) → ((kernel : KernelNo) (n : ℕ) → kernel.0 ≡ m + n → n < length ks → locked_by s rs kernel of ≤ amount_of (limits_in (slice_get ks n)) of) → count_by (locked_from m) rs ≤ sum_by (λ k. amount_of k.limits of) ks
  locked_few [] m owned within =
      let none : count_by (locked_from m) rs ≡ 0 = count_nothing (locked_from m) rs (λ r there counts.
      let own = owned r there in
      let low = not_below m r own.0 own.1 counts in
      let high = own.2 in
      omega arith) in
      omega arith
  locked_few (k ∷ ks) m owned within =
      let first : locked_by s rs (record { 0 = m }) of ≤ amount_of k.limits of = within (record { 0 = m }) 0 (omega arith) (omega arith) in
      let later = locked_few ks (m + 1) (λ r there. let own = owned r there in let high = own.2 in (own.0, own.1, omega arith)) (λ kernel n is low. within kernel (suc n) (omega arith) (omega arith)) in
      let either : count_by (locked_from m) rs ≤ locked_by s rs (record { 0 = m }) of + count_by (locked_from (m + 1)) rs = count_either (locked_from m) (locked_at (record { 0 = m })) (locked_from (m + 1)) rs (λ r there counts. let own = owned r there in this_or_later m r own.0 own.1 counts) in
      let sum : sum_by (λ (l : FlatKernel). amount_of l.limits of) (k ∷ ks) ≡ amount_of k.limits of + sum_by (λ (l : FlatKernel). amount_of l.limits of) ks = sum_by-cons (λ (l : FlatKernel). amount_of l.limits of) k ks in
      omega arith

  abbrev is_locked : Resident → Bool
  is_locked r = r.locked && is_kind r.ident.kind of

  -- of a kind no more are locked than all limits allow, summed
  pub locked_within : ((r : Resident) → Contains rs r → (kernel : KernelNo) × (owner s r.name ≡ Some kernel) × (kernel.0 < length s.kernels)) → ((kernel : KernelNo) → kernel.0 < length s.kernels → locked_by s rs kernel of ≤ amount_of (limits_in (slice_get s.kernels kernel.0)) of) → count_by is_locked rs ≤ amount_of (locks_granted s.kernels) of
  locked_within owned within =
      let all : count_by is_locked rs ≤ count_by (locked_from 0) rs = count_narrow is_locked (locked_from 0) rs (λ r there counts. let parts = and_parts _ _ counts in and_from _ _ parts.0 (and_from _ _ parts.1 (le-leb 0 (number (owner s r.name)) (omega arith)))) in
      let few = locked_few s.kernels 0 (λ r there. let own = owned r there in let high = own.2 in (own.0, own.1, omega arith)) (λ kernel n is low. subst (λ (i : ℕ). locked_by s rs kernel of ≤ amount_of (limits_in (slice_get s.kernels i)) of) (omega arith) (within kernel (omega arith))) in
      let sum = summed of in
      omega arith
    where
      summed : (k : Kind) → amount_of (locks_granted s.kernels) k ≡ sum_by (λ l. amount_of l.limits k) s.kernels
      summed kind.Kernel = refl
      summed kind.Space = refl
      summed kind.Thread = refl
      summed kind.Mapping = refl

-- ---- kept

-- is the identifier among those that are kept?
abbrev pub is_among : List Ident → Ident → Bool
is_among [] ident = false
is_among (kept ∷ keep) ident = is_same ident kept || is_among keep ident

pub among_if_kept : (keep : List Ident) (ident : Ident) → Contains keep ident → is_among keep ident ≡ true
among_if_kept [] ident there = absurd (contains_nothing ident there)
among_if_kept (kept ∷ keep) ident there = elim (Contains-cases kept keep ident there) [
  | inl same ↦ or_left _ _ (ap (is_same ident) same ∙ is_same-refl ident)
  | inr behind ↦ or_right _ _ (among_if_kept keep ident behind)
]

module _ (of : Kind) where
  abbrev is_one : Ident → Resident → Bool
  is_one ident r = is_kind r.ident.kind of && is_same r.ident ident

  abbrev is_kept : List Ident → Resident → Bool
  is_kept keep r = is_kind r.ident.kind of && is_among keep r.ident

  -- at most one has an identifier
  one_at_most : (ident : Ident) (rs : List Resident) → AreApart rs → count_by (is_one ident) rs ≤ cond (is_kind ident.kind of) 1 0
  one_at_most ident [] apart = omega arith
  one_at_most ident (r ∷ rs) apart = by (is_one ident r) refl (one_at_most ident rs (apart_behind r rs apart))
    where
      by : (b : Bool) → is_one ident r ≡ b → count_by (is_one ident) rs ≤ cond (is_kind ident.kind of) 1 0 → count_by (is_one ident) (r ∷ rs) ≤ cond (is_kind ident.kind of) 1 0
      by true is later =
          let parts = and_parts _ _ is in
          let same = same_ident r.ident ident parts.1 in
          let here : cond {A = ℕ} (is_kind ident.kind of) 1 0 ≡ 1 = ap (λ (b : Bool). cond {A = ℕ} b 1 0) (ap (λ (i : Ident). is_kind i.kind of) (sym same) ∙ parts.0) in
          let first : cond {A = ℕ} (is_one ident r) 1 0 ≡ 1 = ap (λ (b : Bool). cond {A = ℕ} b 1 0) is in
          let none : count_by (is_one ident) rs ≡ 0 = count_nothing (is_one ident) rs (λ x there counts. apart_first r rs apart x there (same_ident x.ident ident (and_parts (is_kind x.ident.kind of) (is_same x.ident ident) counts).1 ∙ sym same)) in
          let whole = count_by-cons (is_one ident) r rs in
          omega arith
      by false is later =
          let first : cond {A = ℕ} (is_one ident r) 1 0 ≡ 0 = ap (λ (b : Bool). cond {A = ℕ} b 1 0) is in
          let whole = count_by-cons (is_one ident) r rs in
          omega arith

  -- of a kind no more residents are kept than identifiers
  pub kept_within : (rs : List Resident) → AreApart rs → (keep : List Ident) → count_by (is_kept keep) rs ≤ kept_of keep of
  kept_within rs apart [] =
      let none : count_by (is_kept []) rs ≡ 0 = count_nothing (is_kept []) rs (λ r there counts. false≢true (and_parts (is_kind r.ident.kind of) false counts).1) in
      omega arith
  kept_within rs apart (kept ∷ keep) =
      let one = one_at_most kept rs apart in
      let later = kept_within rs apart keep in
      let either : count_by (is_kept (kept ∷ keep)) rs ≤ count_by (is_one kept) rs + count_by (is_kept keep) rs = count_either (is_kept (kept ∷ keep)) (is_one kept) (is_kept keep) rs (λ r there counts.
      let parts = and_parts (is_kind r.ident.kind of) (is_same r.ident kept || is_among keep r.ident) counts in
      elim (or_cases (is_same r.ident kept) (is_among keep r.ident) parts.1) [
        | inl same ↦ inl (and_from _ _ parts.0 same)
        | inr later ↦ inr (and_from _ _ parts.0 later)
      ]) in
      let whole : kept_of (kept ∷ keep) of ≡ cond (is_kind kept.kind of) 1 0 + kept_of keep of = count_by-cons (λ (ident : Ident). is_kind ident.kind of) kept keep in
      omega arith

-- where each resident of a kind is locked or kept, there are no more of the kind than are locked and kept
pub all_locked_or_kept : (of : Kind) (rs : List Resident) (keep : List Ident) → ((r : Resident) → Contains rs r → r.ident.kind ≡ of → (r.locked ≡ true) ⊎ Contains keep r.ident) → ((a b : Kind) → is_kind a b ≡ true → a ≡ b) → count_of rs of ≤ count_by (λ (r : Resident). r.locked && is_kind r.ident.kind of) rs + count_by (λ (r : Resident). is_kind r.ident.kind of && is_among keep r.ident) rs
all_locked_or_kept of rs keep each kinds = count_either (λ (r : Resident). is_kind r.ident.kind of) (λ (r : Resident). r.locked && is_kind r.ident.kind of) (λ (r : Resident). is_kind r.ident.kind of && is_among keep r.ident) rs (λ r there is.
    elim (each r there (kinds r.ident.kind of is)) [
      | inl locked ↦ inl (and_from _ _ locked is)
      | inr kept ↦ inr (and_from _ _ is (among_if_kept keep r.ident kept))
    ])
