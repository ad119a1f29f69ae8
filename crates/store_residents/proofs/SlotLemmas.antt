-- How many residents of a kind there are, by their slots.
use Rattle.std.proofs.Common.{◌≡◌, ◌≢◌, ℕ, ◌<◌, ◌≤◌, Bool, true, eqb, List, ◌∷◌, length, get_or, map, filter, AllPairs, Contains, Decides, sym, ◌∙◌, ap, subst, arith, inl, inr}
use Rattle.std.specs.List.{list_any}
use Rattle.std.proofs.lemmas.Bool.Decides.{Decides-eqb}
use Rattle.std.proofs.lemmas.List.{get_or-map, length-map}
use Rattle.std.proofs.lemmas.List.Elements.{Contains-get_or}
use Rattle.std.proofs.lemmas.List.Kept.{AllPairs-cons, AllPairs-filter}
use Rattle.std.proofs.lemmas.List.Sums.{length-filter}
use Rattle.std.proofs.lemmas.Map.Made.{is_member-Decides, IsDistinct-from_AllPairs}
use Rattle.std.proofs.lemmas.Map.Steps.{le-length_from_below, length-le_from_distinct_below}
use Rattle.sorted_list.proofs.ListLemmas.{some_item, Contains-cons_cases, Contains-filter, Contains-from_filter, Contains-from_map, Contains-map}
use Rattle.cache_ident.specs.declared.idents.Kind.{Kind}
use Rattle.cache_ident.specs.Residents.{Resident}
use Rattle.resident_pairs.specs.run_journal.specs.Legal.{count_of, is_kind, IsTaken}
use Rattle.resident_pairs.specs.run_journal.proofs.KindLemmas.{is_kind-refl, kind_is}
use Rattle.store_residents.proofs.RollLemmas.{IsRising}

-- numbers of which no two are equal
abbrev AreApart : List ℕ → Type 0
AreApart ns = AllPairs (λ a b. a ≢ b) ns

member : (ns : List ℕ) (n : ℕ) → Decides (list_any (eqb n) ns) (Contains ns n)
member ns n = is_member-Decides Decides-eqb ns n

apart_below : (ns : List ℕ) (n : ℕ) → AreApart ns → ((k : ℕ) → Contains ns k → k < n) → length ns ≤ n
apart_below ns n apart below = length-le_from_distinct_below ns n (IsDistinct-from_AllPairs Decides-eqb ns apart) (λ k is. below k ((member ns k).0 is))

all_below : (ns : List ℕ) (n : ℕ) → ((k : ℕ) → k < n → Contains ns k) → n ≤ length ns
all_below ns n each = le-length_from_below ns n (λ k low. (member ns k).1 (each k low))

module _ (kind : Kind) (rs : List Resident) (rising : IsRising rs) (one : (a b : Resident) → Contains rs a → Contains rs b → a.ident.kind ≡ b.ident.kind → a.ident.slot ≡ b.ident.slot → a ≡ b) where
  abbrev of_kind : Resident → Bool
  of_kind r = is_kind r.ident.kind kind

  abbrev slot_of : Resident → ℕ
  slot_of r = r.ident.slot

  abbrev slots : List ℕ
  slots = map slot_of (filter of_kind rs)

  count_is : length slots ≡ count_of rs kind
  count_is = length-map (filter of_kind rs) slot_of ∙ length-filter of_kind rs

  pub taken : (slot : ℕ) → Contains slots slot → IsTaken rs kind slot
  taken slot there =
      let r = Contains-from_map slot_of (filter of_kind rs) slot there in
      let own = Contains-from_filter of_kind rs r.0 r.1 in
      (r.0, own.0, kind_is r.0.ident.kind kind own.1, r.2)

  listed : (slot : ℕ) → IsTaken rs kind slot → Contains slots slot
  listed slot is =
      let passes : of_kind is.0 ≡ true = ap (λ k. is_kind k kind) is.2 ∙ is_kind-refl kind in
      subst (Contains slots) is.3 (Contains-map slot_of (filter of_kind rs) is.0 (Contains-filter of_kind rs is.0 is.1 passes))

  slots_apart : AreApart slots
  slots_apart i j d lt within same =
      let in_range : j < length (filter of_kind rs) = omega (arith, within, length-map (filter of_kind rs) slot_of) in
      let e = some_item (filter of_kind rs) (omega (arith, in_range)) in
      let a = get_or (filter of_kind rs) i e in
      let b = get_or (filter of_kind rs) j e in
      let a_in = Contains-from_filter of_kind rs a (Contains-get_or (filter of_kind rs) i e (omega (arith, lt, in_range))) in
      let b_in = Contains-from_filter of_kind rs b (Contains-get_or (filter of_kind rs) j e in_range) in
      let slot : a.ident.slot ≡ b.ident.slot = sym (get_or-map slot_of (filter of_kind rs) i e d (omega (arith, lt, in_range))) ∙ same ∙ get_or-map slot_of (filter of_kind rs) j e d in_range in
      let is = one a b a_in.0 b_in.0 (kind_is a.ident.kind kind a_in.1 ∙ sym (kind_is b.ident.kind kind b_in.1)) slot in
      let higher : a.ident.serial < b.ident.serial = AllPairs-filter (λ (x : Resident) (y : Resident). x.ident.serial < y.ident.serial) of_kind rs rising i j e lt in_range in
      omega (arith, higher, ap (λ (x : Resident). x.ident.serial) is)

  module _ (most : ℕ) (low : (slot : ℕ) → IsTaken rs kind slot → slot < most) where
    -- there are no more of them than slots
    pub count_few : count_of rs kind ≤ most
    count_few = omega (arith, count_is, apart_below slots most slots_apart (λ slot there. low slot (taken slot there)))

    -- and as many only where each slot is taken
    pub count_all : ((slot : ℕ) → slot < most → IsTaken rs kind slot) → count_of rs kind ≡ most
    count_all each = omega (arith, count_is, count_few, all_below slots most (λ slot within. listed slot (each slot within)))

    pub none_free : count_of rs kind ≡ most → (slot : ℕ) → slot < most → (IsTaken rs kind slot → ⊥) → ⊥
    none_free whole slot within free =
        let more : AreApart (slot ∷ slots) = AllPairs-cons (λ (a : ℕ) (b : ℕ). a ≢ b) slot slots (λ k d below same. free (taken slot (subst (Contains slots) (sym same) (Contains-get_or slots k d below)))) slots_apart in
        let fits = apart_below (slot ∷ slots) most more (λ k there. elim (Contains-cons_cases slots slot k there) [
          | inl same ↦ omega (arith, same, within)
          | inr behind ↦ low k (taken k behind)
        ]) in
        omega (arith, fits, count_is, whole)
