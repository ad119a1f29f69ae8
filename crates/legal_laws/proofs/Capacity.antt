-- What is resident in a legal journal is within the capacities.
use Rattle.std.proofs.Common.{◌≡◌, ◌≢◌, ℕ, zero, suc, ◌<◌, ◌≤◌, Bool, true, false, cond, eqb, Option, List, [], ◌∷◌, map, filter, replicate, Contains, refl, ap, sym, ◌∙◌, subst, inl, inr, arith, rules}
use Rattle.std.specs.List.{IsDistinct, AllByRecursion, list_any}
use denote.Enum.Bare.{same_true}
use Rattle.std.proofs.lemmas.Bool.{eqb-true, ne_eqb, or_cases}
use Rattle.std.proofs.lemmas.List.{length-map}
use Rattle.std.proofs.lemmas.List.Elements.{Contains-push_cases}
use Rattle.std.proofs.lemmas.List.Sums.{length-filter}
use Rattle.std.proofs.lemmas.Map.Keys.{IsDistinct-cons, IsDistinct-from_apart}
use Rattle.std.proofs.lemmas.Map.Steps.{length-le_from_distinct_below}
use Rattle.cache_ident.specs.declared.idents.Cause.{Cause}
use Rattle.cache_ident.specs.declared.idents.Cause.TheVariants as causes
use Rattle.cache_ident.specs.declared.idents.Ident.{Ident}
use Rattle.cache_ident.specs.contracts.idents.Kind.{the_type}
use Rattle.cache_ident.specs.declared.idents.Kind.{Kind}
use Rattle.cache_ident.specs.declared.names.Name.{Name}
use Rattle.cache_ident.specs.declared.names.ThreadNo.{ThreadNo}
use Rattle.cache_ident.specs.Names.{amount_of}
use Rattle.cache_ident.specs.Residents.{Resident, with_loaded, without, locked_if, with_lock}
use Rattle.group_laws.specs.flat_state.specs.declared.events.Event.TheVariants.{Step}
use Rattle.group_laws.specs.flat_state.specs.declared.events.Machine.{Machine}
use Rattle.group_laws.specs.flat_state.specs.State.{FlatState}
use Rattle.group_laws.specs.flat_state.specs.Declaration.{caps_of}
use Rattle.group_laws.specs.flat_state.specs.Events.{after_events, applied, flat}
use Rattle.group_laws.specs.flat_laws.proofs.Members.{contains_nothing, Contains-behind, Contains-here, Contains-from_map}
use Rattle.group_laws.specs.run_journal.specs.declared.entries.Entry.{Entry}
use Rattle.group_laws.specs.run_journal.specs.declared.entries.Entry.TheVariants.{Declared, Sealed, Loaded, WrittenBack, Locked, Unlocked, Ran, Ended, Completed}
use Rattle.group_laws.specs.run_journal.specs.Entries.{erase}
use Rattle.group_laws.specs.run_journal.specs.Legal.{cap_of, count_of, is_kind, AreLegal, IsLegal, MayCome, MayLoad}
use Rattle.group_laws.specs.run_journal.specs.Told.{nothing_told, residents, told, told_after, told_from, Told}
use Rattle.group_laws.specs.run_journal.proofs.Growth.{residents_told_from}
use Rattle.group_laws.specs.run_journal.proofs.LegalGrowth.{state_told}
use Rattle.group_laws.specs.run_journal.proofs.Others.{without_cases, locked_keeps}
use Rattle.group_laws.specs.run_journal.proofs.Sound.{AreNumbered}
use Rattle.group_laws.specs.run_journal.proofs.Whole.{nothing_whole, whole_after, IsWhole, HaveSlots}
use Rattle.group_laws.specs.journal_laws.specs.Leaving.{AreApart}
use Rattle.group_laws.proofs.Counting.{apart_behind, apart_first}
use Rattle.group_laws.proofs.StayingOne.{apart_left, apart_loaded, apart_locked}
use Rattle.legal_laws.proofs.Machines.{step_machine, completed_machine}

-- ---- slots

-- the slot of each is below the capacity of its kind
abbrev AreWithin : FlatState → List Resident → Type 0
AreWithin s rs = (r : Resident) → Contains rs r → r.ident.slot < cap_of s r.ident.kind

within_as : (s u : FlatState) (rs : List Resident) → u.machine ≡ s.machine → AreWithin s rs → AreWithin u rs
within_as s u rs same within r there = subst (λ (m : Option Machine). r.ident.slot < amount_of (caps_of m) r.ident.kind) (sym same) (within r there)

within_without : (s : FlatState) (ident : Ident) (rs : List Resident) → AreWithin s rs → AreWithin s (without ident rs)
within_without s ident rs within r there = within r (without_cases ident rs r there).0

within_lock : (s : FlatState) (ident : Ident) (on : Bool) (rs : List Resident) → AreWithin s rs → AreWithin s (with_lock ident on rs)
within_lock s ident on rs within r there =
    let was = Contains-from_map (locked_if ident on) rs r there in
    subst (λ (i : Ident). i.slot < cap_of s i.kind) (sym (locked_keeps ident on was.0).0 ∙ ap (λ (x : Resident). x.ident) was.2) (within was.0 was.1)

within_load : (s : FlatState) (ident : Ident) (name : Name) (rs : List Resident) → ident.slot < cap_of s ident.kind → AreWithin s rs → AreWithin s (with_loaded ident name rs)
within_load s ident name rs low within r there = elim (Contains-push_cases rs (record { ident = ident; name = name; locked = false }) r there) [
  | inl before ↦ within r before
  | inr now ↦ subst (λ (x : Resident). x.ident.slot < cap_of s x.ident.kind) now low
]

steps_machine : (n : ℕ) (s : FlatState) (thread : ThreadNo) → (after_events s (replicate n (Step thread))).machine ≡ s.machine
steps_machine zero s thread = refl
steps_machine (suc n) s thread = steps_machine n (applied s (Step thread)) thread ∙ step_machine s thread

-- ---- what holds of what a legal journal tells

pub record IsKept (k : Told) : Type 0 where
  pub whole : IsWhole k
  pub within : AreWithin k.state k.residents
  -- no two places of the list have one identifier
  pub apart : AreApart k.residents

within_back : (k : Told) (ident : Ident) (cause : Cause) (cpu : ℕ) → AreWithin k.state (without ident k.residents) → AreWithin (told_after k (WrittenBack ident cause cpu)).state (told_after k (WrittenBack ident cause cpu)).residents
within_back k ident causes.Dependent cpu within = within
within_back k ident causes.Displaced cpu within = within
within_back k ident causes.Unloaded cpu within = within

apart_back : (k : Told) (ident : Ident) (cause : Cause) (cpu : ℕ) → AreApart (without ident k.residents) → AreApart (told_after k (WrittenBack ident cause cpu)).residents
apart_back k ident causes.Dependent cpu apart = apart
apart_back k ident causes.Displaced cpu apart = apart
apart_back k ident causes.Unloaded cpu apart = apart

within_after : (k : Told) (e : Entry) → MayCome k e → IsKept k → AreWithin (told_after k e).state (told_after k e).residents
within_after k (Declared d) may kept = λ r there. absurd (contains_nothing r (subst (λ (rs : List Resident). Contains rs r) (kept.whole.unsealed may.place.0).1 there))
within_after k Sealed may kept = kept.within
within_after k (Loaded ident name cpu) may kept = within_load k.state ident name k.residents may.happens.within kept.within
within_after k (WrittenBack ident cause cpu) may kept = within_back k ident cause cpu (within_without k.state ident k.residents kept.within)
within_after k (Locked ident cpu) may kept = within_lock k.state ident true k.residents kept.within
within_after k (Unlocked ident cpu) may kept = within_lock k.state ident false k.residents kept.within
within_after k (Ran thread steps cpu) may kept = within_as k.state (told_after k (Ran thread steps cpu)).state k.residents (steps_machine steps k.state thread) kept.within
within_after k (Ended thread cpu) may kept = within_as k.state (told_after k (Ended thread cpu)).state k.residents (step_machine k.state thread) kept.within
within_after k (Completed thread cpu) may kept = within_as k.state (told_after k (Completed thread cpu)).state k.residents (completed_machine k.state thread) kept.within

-- a serial that is given out now was given to none
fresh : (k : Told) (ident : Ident) (name : Name) → MayLoad k ident name → AreNumbered k.loads k.residents → (r : Resident) → Contains k.residents r → r.ident ≢ ident
fresh k ident name may are r there same = let low = are.issued r there in let its : r.ident.serial ≡ ident.serial = ap (λ (i : Ident). i.serial) same in let now = may.serial in absurd (omega arith)

apart_after : (k : Told) (e : Entry) → MayCome k e → IsKept k → AreApart (told_after k e).residents
apart_after k (Declared d) may kept = kept.apart
apart_after k Sealed may kept = kept.apart
apart_after k (Loaded ident name cpu) may kept = apart_loaded k.residents ident name kept.apart (λ other. fresh k ident name may.happens kept.whole.numbered other.0 other.1 other.2)
apart_after k (WrittenBack ident cause cpu) may kept = apart_back k ident cause cpu (apart_left k.residents ident kept.apart)
apart_after k (Locked ident cpu) may kept = apart_locked k.residents ident true kept.apart
apart_after k (Unlocked ident cpu) may kept = apart_locked k.residents ident false kept.apart
apart_after k (Ran thread steps cpu) may kept = kept.apart
apart_after k (Ended thread cpu) may kept = kept.apart
apart_after k (Completed thread cpu) may kept = kept.apart

pub kept_after : (k : Told) (e : Entry) → MayCome k e → IsKept k → IsKept (told_after k e)
kept_after k e may kept = record { whole = whole_after k e may kept.whole; within = within_after k e may kept; apart = apart_after k e may kept }

kept_from : (k : Told) (es : List Entry) → AreLegal k es → IsKept k → IsKept (told_from k es)
kept_from k [] legal kept = kept
kept_from k (e ∷ es) legal kept = kept_from (told_after k e) es legal.1 (kept_after k e legal.0 kept)

pub nothing_kept : IsKept nothing_told
nothing_kept = record {
  whole = nothing_whole;
  within = λ r there. absurd (contains_nothing r there);
  apart = λ i j d lower within. absurd (omega arith);
}

are_kept : (j : List Entry) → IsLegal j → IsKept (told j)
are_kept j legal = kept_from nothing_told j legal.each nothing_kept

-- ---- how many of a kind

same_kind : (a b : Kind) → is_kind a b ≡ true → a ≡ b
same_kind a b is = same_true the_type (search rules) a b is

-- each of a kind has a slot of its own
abbrev OneSlotEach : List Resident → Type 0
OneSlotEach rs = (a b : Resident) → Contains rs a → Contains rs b → a.ident.kind ≡ b.ident.kind → a.ident.slot ≡ b.ident.slot → a ≡ b

module _ (kind : Kind) where
  abbrev of_kind : Resident → Bool
  of_kind r = is_kind r.ident.kind kind

  -- the slots of those of the kind
  abbrev slots : List Resident → List ℕ
  slots rs = map (λ r. r.ident.slot) (filter of_kind rs)

  differ_all : (slot : ℕ) (xs : List Resident) → ((x : Resident) → Contains xs x → of_kind x ≡ true → x.ident.slot ≢ slot) → AllByRecursion (λ n. eqb slot n ≡ false) (slots xs)
  differ_all slot [] other = tt
  differ_all slot (x ∷ xs) other = by (differ_all slot xs (λ y there. other y (Contains-behind x xs y there))) (of_kind x) refl
    where
      by : AllByRecursion (λ n. eqb slot n ≡ false) (slots xs) → (b : Bool) → of_kind x ≡ b → AllByRecursion (λ n. eqb slot n ≡ false) (map (λ (r : Resident). r.ident.slot) (cond b (x ∷ filter of_kind xs) (filter of_kind xs)))
      by later true is = (ne_eqb slot x.ident.slot (λ same. other x (Contains-here x xs) is (sym same)), later)
      by later false is = later

  distinct : (rs : List Resident) → AreApart rs → OneSlotEach rs → IsDistinct eqb (slots rs)
  distinct [] apart one = IsDistinct-from_apart eqb (slots []) (λ i j d lower within. absurd (omega arith))
  distinct (r ∷ rs) apart one = by (distinct rs (apart_behind r rs apart) (λ a b a_there b_there. one a b (Contains-behind r rs a a_there) (Contains-behind r rs b b_there))) (of_kind r) refl
    where
      others : of_kind r ≡ true → (x : Resident) → Contains rs x → of_kind x ≡ true → x.ident.slot ≢ r.ident.slot
      others is x there its same =
          let alike : x.ident.kind ≡ r.ident.kind = same_kind x.ident.kind kind its ∙ sym (same_kind r.ident.kind kind is) in
          apart_first r rs apart x there (ap (λ (y : Resident). y.ident) (one x r (Contains-behind r rs x there) (Contains-here r rs) alike same))

      by : IsDistinct eqb (slots rs) → (b : Bool) → of_kind r ≡ b → IsDistinct eqb (map (λ (x : Resident). x.ident.slot) (cond b (r ∷ filter of_kind rs) (filter of_kind rs)))
      by later true is = IsDistinct-cons eqb r.ident.slot (slots rs) (differ_all r.ident.slot rs (others is)) later
      by later false is = later

  below : (s : FlatState) (rs : List Resident) → AreWithin s rs → (n : ℕ) → list_any (eqb n) (slots rs) ≡ true → n < cap_of s kind
  below s [] within n is = absurd (cc)
  below s (r ∷ rs) within n is = by (below s rs (λ x there. within x (Contains-behind r rs x there)) n) (of_kind r) refl is
    where
      by : (list_any (eqb n) (slots rs) ≡ true → n < cap_of s kind) → (b : Bool) → of_kind r ≡ b → list_any (eqb n) (map (λ (x : Resident). x.ident.slot) (cond b (r ∷ filter of_kind rs) (filter of_kind rs))) ≡ true → n < cap_of s kind
      by later true its is = elim (or_cases (eqb n r.ident.slot) (list_any (eqb n) (slots rs)) is) [
        | inl here ↦
            let same : n ≡ r.ident.slot = eqb-true n r.ident.slot here in
            let low : r.ident.slot < cap_of s kind = subst (λ (k : Kind). r.ident.slot < cap_of s k) (same_kind r.ident.kind kind its) (within r (Contains-here r rs)) in
            omega (arith, same, low)
        | inr behind ↦ later behind
      ]
      by later false its is = later is

  few : (s : FlatState) (rs : List Resident) → AreWithin s rs → AreApart rs → OneSlotEach rs → count_of rs kind ≤ cap_of s kind
  few s rs within apart one =
      let most = length-le_from_distinct_below (slots rs) (cap_of s kind) (distinct rs apart one) (below s rs within) in
      omega (arith, most, length-map (filter of_kind rs) (λ (r : Resident). r.ident.slot), length-filter of_kind rs)

-- ---- of a journal

module _ (j : List Entry) (legal : IsLegal j) where
  within_told : AreWithin (flat (erase j)) (residents j)
  within_told r there =
      subst (λ (s : FlatState). r.ident.slot < cap_of s r.ident.kind) (state_told j)
      ((are_kept j legal).within r (subst (λ (rs : List Resident). Contains rs r) (sym (residents_told_from nothing_told j)) there))

  pub slots_within : (r : Resident) → Contains (residents j) r → r.ident.slot < cap_of (flat (erase j)) r.ident.kind
  slots_within = within_told

  pub few_told : (kind : Kind) → count_of (residents j) kind ≤ cap_of (flat (erase j)) kind
  few_told kind =
      let kept = are_kept j legal in
      few kind (flat (erase j)) (residents j) within_told
      (subst AreApart (residents_told_from nothing_told j) kept.apart)
      (subst HaveSlots (residents_told_from nothing_told j) kept.whole.apart).slots
