-- Who is loaded, by the residents that have a name.
use Rattle.std.proofs.Common.{◌≡◌, Bool, true, false, List, [], ◌∷◌, Contains, IsSome, refl, sym, ◌∙◌, ap, subst, ◌⊎◌, inl, inr}
use Rattle.std.specs.List.{list_any}
use Rattle.std.specs.Prelude.{◌||◌}
use Rattle.cache_ident.specs.declared.names.Name.{Name}
use Rattle.cache_ident.specs.declared.names.Name.TheVariants as name
use Rattle.cache_ident.specs.declared.names.ThreadNo.{ThreadNo}
use Rattle.cache_ident.specs.Residents.{Resident}
use Rattle.board_laws.specs.flat_laws.proofs.Members.{Contains-behind, Contains-cases, Contains-here, contains_nothing}
use Rattle.thread_sets.specs.owner_shelf.proofs.NameLemmas.{eq_apart, eq_itself}
use Rattle.thread_sets.specs.kind_store.specs.Changes.{is_name}
use Rattle.thread_sets.specs.kind_store.proofs.ContentLemmas.{cases_name}
use Rattle.board_laws.specs.desc_stores.specs.Contents.{content_of, residents_of, Contents}
use Rattle.board_laws.specs.desc_stores.specs.Sound.{IsExactlyOne}
use Rattle.board_laws.specs.store_residents.proofs.ContentLemmas.{resident_content}
use Rattle.cached_machine.specs.Cached.{is_loaded}

-- what a test finds in a list is in it, and passes
found_in : {X : Type 0} (test : X → Bool) (xs : List X) → list_any test xs ≡ true → (x : X) × Contains xs x × (test x ≡ true)
found_in test [] none = absurd (cc)
found_in {X = X} test (x ∷ xs) any = by (test x) refl any (λ later. found_in test xs later)
  where
    by : (b : Bool) → test x ≡ b → (b || list_any test xs) ≡ true → (list_any test xs ≡ true → (y : X) × Contains xs y × (test y ≡ true)) → (y : X) × Contains (x ∷ xs) y × (test y ≡ true)
    by true passes any rest = (x, Contains-here x xs, passes)
    by false fails any rest = let later = rest any in (later.0, Contains-behind x xs later.0 later.1, later.2)

in_found : {X : Type 0} (test : X → Bool) (xs : List X) (x : X) → Contains xs x → test x ≡ true → list_any test xs ≡ true
in_found test [] x there passes = absurd (contains_nothing x there)
in_found test (y ∷ ys) x there passes = by (test y) refl (Contains-cases y ys x there) (λ later. in_found test ys x later passes)
  where
    by : (b : Bool) → test y ≡ b → (y ≡ x) ⊎ Contains ys x → (Contains ys x → list_any test ys ≡ true) → (b || list_any test ys) ≡ true
    by true is which rest = refl
    by false is (inl same) rest = absurd (let passing : test y ≡ true = ap test same ∙ passes in cc)
    by false is (inr later) rest = rest later

same_name : (a b : Name) → is_name a b ≡ true → a ≡ b
same_name a b test = elim (cases_name a b) [
  | inl same ↦ same
  | inr apart ↦ absurd (let differs : is_name a b ≡ false = eq_apart a b apart in cc)
]

abbrev among : List Resident → Name → Bool
among rs n = list_any (λ (r : Resident). is_name n r.name) rs

-- a name is loaded where a resident has it
pub loaded_by : (rs : List Resident) (n : Name) → list_any (λ (r : Resident). is_name n r.name) rs ≡ true → (r : Resident) × Contains rs r × (r.name ≡ n)
loaded_by rs n any = let found = found_in (λ (r : Resident). is_name n r.name) rs any in (found.0, found.1, sym (same_name n found.0.name found.2))

pub loads : (rs : List Resident) (n : Name) (r : Resident) → Contains rs r → r.name ≡ n → list_any (λ (q : Resident). is_name n q.name) rs ≡ true
loads rs n r there named = in_found (λ (q : Resident). is_name n q.name) rs r there (ap (is_name n) named ∙ eq_itself n)

pub not_loaded : (rs : List Resident) (n : Name) → ((r : Resident) → Contains rs r → r.name ≡ n → ⊥) → list_any (λ (r : Resident). is_name n r.name) rs ≡ false
not_loaded rs n none = by (list_any (λ (r : Resident). is_name n r.name) rs) refl
  where
    by : (b : Bool) → list_any (λ (r : Resident). is_name n r.name) rs ≡ b → b ≡ false
    by true any = absurd (let found = loaded_by rs n any in none found.0 found.1 found.2)
    by false any = refl

-- each resident of the one list has its name and its identifier from one of the other
pub record ComesFrom (old new : List Resident) : Type 0 where
  pub each : (r : Resident) → Contains new r → (q : Resident) × Contains old q × (q.name ≡ r.name) × (q.ident ≡ r.ident)

-- so what is loaded was
pub was_loaded : (old new : List Resident) → ComesFrom old new → (n : Name) → list_any (λ (r : Resident). is_name n r.name) new ≡ true → list_any (λ (r : Resident). is_name n r.name) old ≡ true
was_loaded old new from n any =
    let found = loaded_by new n any in
    let was = from.each found.0 found.1 in
    loads old n was.0 was.1 (was.2 ∙ found.2)

same_truth : (a b : Bool) → (a ≡ true → b ≡ true) → (b ≡ true → a ≡ true) → a ≡ b
same_truth true b there back = sym (there refl)
same_truth false true there back = back refl
same_truth false false there back = refl

pub loaded_alike : (old new : List Resident) → ComesFrom old new → ComesFrom new old → (n : Name) → list_any (λ (r : Resident). is_name n r.name) new ≡ list_any (λ (r : Resident). is_name n r.name) old
loaded_alike old new from back n = same_truth (among new n) (among old n) (was_loaded old new from n) (was_loaded new old back n)

module _ (c : Contents) (one : IsExactlyOne c) (whom : ThreadNo) where
  -- a loaded thread stands
  pub loaded_stands : is_loaded c (name.Thread whom) ≡ true → IsSome (content_of c (name.Thread whom))
  loaded_stands any =
      let r = loaded_by (residents_of c) (name.Thread whom) any in
      subst (λ (n : Name). IsSome (content_of c n)) r.2 (resident_content c one r.0 r.1)
