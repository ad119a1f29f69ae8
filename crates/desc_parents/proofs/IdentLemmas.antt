-- The identifiers of what is resident under names.
use Rattle.std.proofs.Common.{◌≡◌, ◌≢◌, Bool, true, List, [], ◌∷◌, filter_map, find, get_or, All, AllPairs, Contains, Option, Some, None, IfSome, IfNone, refl, sym, ◌∙◌, ap, subst, inl, inr, arith}
use Rattle.std.specs.List.{cons_option}
use Rattle.std.specs.Option.{option_map}
use Rattle.std.proofs.lemmas.Bool.{cases_Bool, false≢true}
use Rattle.std.proofs.lemmas.List.Elements.{Contains-get_or}
use Rattle.std.proofs.lemmas.List.Kept.{AllPairs-cons}
use Rattle.std.proofs.lemmas.Option.{same_Some}
use Rattle.sorted_list.proofs.ListLemmas.{Contains-cons_cases}
use Rattle.cache_ident.specs.declared.idents.Ident.{Ident}
use Rattle.cache_ident.specs.declared.names.Name.{Name}
use Rattle.cache_ident.specs.Residents.{Resident, IsNameResident, IsResident}
use Rattle.group_laws.specs.flat_laws.proofs.Members.{contains_nothing, Contains-filter_map, Contains-from_filter_map}
use Rattle.group_laws.specs.flat_state.specs.Dependence.{parents}
use Rattle.group_laws.specs.flat_state.specs.State.{FlatState}
use Rattle.group_laws.specs.flat_state.proofs.Finding.{find-contains, find-passes}
use Rattle.shown_state.specs.owner_shelf.proofs.NameLemmas.{eq_same, same_by_eq}
use Rattle.shown_state.specs.kind_store.specs.Changes.{is_name}
use Rattle.group_laws.specs.journal_laws.specs.Leaving.{HaveOneEach}
use Rattle.group_laws.proofs.Remaining.{pairs_head, pairs_tail}
use Rattle.store_residents.specs.desc_stores.specs.Contents.{residents_of, Contents, HasNoResident, IsResidentAs}
use Rattle.store_residents.specs.desc_stores.specs.Sound.{IsExactlyOne}
use Rattle.store_residents.specs.resident_pairs.specs.Among.{AreParents}
use Rattle.store_residents.proofs.ResidentLemmas.{absent_iff, named_iff, one_each}
use Rattle.desc_parents.specs.Idents.{ident_of, idents_of}

-- what passes is found, or something before it
found_some : {X : Type 0} (p : X → Bool) (xs : List X) (x : X) → Contains xs x → p x ≡ true → find p xs ≡ None → ⊥
found_some p [] x there passes none = contains_nothing x there
found_some p (y ∷ ys) x there passes none = elim (cases_Bool (p y)) [
  | inl first ↦ cc (rw first at none)
  | inr past ↦ elim (Contains-cons_cases ys y x there) [
    | inl same ↦ false≢true (sym past ∙ ap p (sym same) ∙ passes)
    | inr later ↦ found_some p ys x later passes (rw past at none)
  ]
]

-- what holds of each element
pub all_of : {X : Type 0} (P : X → Type 0) (xs : List X) → ((x : X) → Contains xs x → P x) → All P xs
all_of P xs each k d within = each (get_or xs k d) (Contains-get_or xs k d within)

-- what stands apart has values that stand apart
AllPairs-filter_map : {X Y : Type 0} (R : X → X → Type 0) (Q : Y → Y → Type 0) (f : X → Option Y) → ((x y : X) (a b : Y) → f x ≡ Some a → f y ≡ Some b → R x y → Q a b) → (xs : List X) → AllPairs R xs → AllPairs Q (filter_map f xs)
AllPairs-filter_map {X} {Y} R Q f apart [] pairs = λ i j d lt within. absurd (omega (arith, within))
AllPairs-filter_map {X} {Y} R Q f apart (x ∷ xs) pairs = by (f x) refl (AllPairs-filter_map R Q f apart xs (pairs_tail R x xs pairs))
  where
    by : (o : Option Y) → f x ≡ o → AllPairs Q (filter_map f xs) → AllPairs Q (cons_option o (filter_map f xs))
    by None is rest = rest
    by (Some a) is rest = AllPairs-cons Q a (filter_map f xs) (all_of (Q a) (filter_map f xs) (λ b there.
        let from = Contains-from_filter_map f xs b there in
        apart x from.0 a b is from.2 (pairs_head R x xs pairs from.0 from.1))) rest

module _ (rs : List Resident) (have : HaveOneEach rs) where
  -- the identifier of a resident is that of its name
  pub ident_found : (r : Resident) → Contains rs r → ident_of rs r.name ≡ Some r.ident
  unfolding ident_of
  ident_found r there = by (find (λ (x : Resident). is_name x.name r.name) rs) refl
    where
      by : (o : Option Resident) → find (λ (x : Resident). is_name x.name r.name) rs ≡ o → option_map (λ (x : Resident). x.ident) o ≡ Some r.ident
      by None is = absurd (found_some (λ (x : Resident). is_name x.name r.name) rs r there (eq_same r.name r.name refl) is)
      by (Some x) is =
          let passes = find-passes (λ (x : Resident). is_name x.name r.name) rs x is in
          ap (λ (y : Resident). Some y.ident) (have.names x r (find-contains (λ (x : Resident). is_name x.name r.name) rs x is) there (same_by_eq x.name r.name passes))

module _ (rs : List Resident) where
  -- an identifier of a name is that of a resident with that name
  pub ident_back : (name : Name) (ident : Ident) → ident_of rs name ≡ Some ident → IsResident rs ident name
  unfolding ident_of
  ident_back name ident is = by (find (λ (x : Resident). is_name x.name name) rs) refl is
    where
      by : (o : Option Resident) → find (λ (x : Resident). is_name x.name name) rs ≡ o → option_map (λ (x : Resident). x.ident) o ≡ Some ident → IsResident rs ident name
      by None there is = absurd (cc)
      by (Some x) there is = (x, find-contains (λ (x : Resident). is_name x.name name) rs x there, same_Some x.ident ident is, same_by_eq x.name name (find-passes (λ (x : Resident). is_name x.name name) rs x there))

  -- a name that isn't resident has none
  pub ident_none : (name : Name) → (IsNameResident rs name → ⊥) → ident_of rs name ≡ None
  ident_none name never = by (ident_of rs name) refl
    where
      by : (o : Option Ident) → ident_of rs name ≡ o → o ≡ None
      by None is = refl
      by (Some ident) is = let back = ident_back name ident is in absurd (never (back.0, back.1, back.3))

module _ (c : Contents) (one : IsExactlyOne c) where
  -- what the stores find is the identifier of the name
  pub found_ident : (name : Name) (o : Option Ident) → IfSome o (IsResidentAs c name) → IfNone o (HasNoResident c name) → ident_of (residents_of c) name ≡ o
  found_ident name None found absent = ident_none (residents_of c) name ((absent_iff c one.sound name).0 absent)
  found_ident name (Some ident) found absent =
      let r = (named_iff c one.sound name ident).0 found in
      subst (λ n. ident_of (residents_of c) n ≡ Some ident) r.3 (ident_found (residents_of c) (one_each c one) r.0 r.1 ∙ ap Some r.2)

  -- the identifiers of what a name depends on are those of its parents that are resident
  pub are_parents : (s : FlatState) (name : Name) → AreParents s (residents_of c) name (idents_of (residents_of c) (parents s name))
  are_parents s name = record {
    sound = λ ident there.
        let from = Contains-from_filter_map (ident_of (residents_of c)) (parents s name) ident there in
        let back = ident_back (residents_of c) from.0 ident from.2 in
        (back.0, back.1, back.2, subst (Contains (parents s name)) (sym back.3) from.1);
    complete = λ r there depends. Contains-filter_map (ident_of (residents_of c)) (parents s name) r.name r.ident depends (ident_found (residents_of c) (one_each c one) r there);
  }

  -- names that differ have identifiers that differ
  pub idents_apart : (names : List Name) → AllPairs (λ a b. a ≢ b) names → AllPairs (λ a b. a ≢ b) (idents_of (residents_of c) names)
  idents_apart names apart = AllPairs-filter_map (λ (a : Name) (b : Name). a ≢ b) (λ (a : Ident) (b : Ident). a ≢ b) (ident_of (residents_of c)) (λ x y a b x_is y_is other same.
      let first = ident_back (residents_of c) x a x_is in
      let second = ident_back (residents_of c) y b y_is in
      let resident = (one_each c one).idents first.0 second.0 first.1 second.1 (first.2 ∙ same ∙ sym second.2) in
      other (sym first.3 ∙ ap (λ (r : Resident). r.name) resident ∙ second.3)) names apart
