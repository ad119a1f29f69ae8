-- In a legal journal each identifier is loaded once, and leaves once, behind its load.
use Rattle.std.proofs.Common.{◌≡◌, ℕ, zero, suc, ◌+◌, ◌<◌, Bool, true, false, cond, List, [], ◌∷◌, length, take, Some, slice_get, Contains, refl, ap, ◌∙◌, subst, inl, inr, arith}
use Rattle.std.specs.Prelude.{count_by}
use Rattle.std.proofs.lemmas.Bool.{cases_lt}
use Rattle.std.proofs.lemmas.List.{length-append, length-map}
use Rattle.std.proofs.lemmas.Option.{same_Some}
use Rattle.cache_ident.specs.declared.idents.Cause.{Cause}
use Rattle.cache_ident.specs.declared.idents.Cause.TheVariants as causes
use Rattle.cache_ident.specs.declared.idents.Ident.{Ident}
use Rattle.cache_ident.specs.declared.idents.Standing.{Standing}
use Rattle.cache_ident.specs.declared.idents.Standing.TheVariants.{Live, Left, Never}
use Rattle.cache_ident.specs.declared.names.Name.{Name}
use Rattle.cache_ident.specs.Residents.{Resident, IsIdentResident, IsResident, locked_if, without}
use Rattle.group_laws.specs.flat_state.proofs.Places.{count_by-cons, Contains-from_get}
use Rattle.group_laws.specs.run_journal.specs.declared.entries.Entry.{Entry}
use Rattle.group_laws.specs.run_journal.specs.declared.entries.Entry.TheVariants.{Declared, Sealed, Loaded, WrittenBack, Locked, Unlocked, Ran, Ended, Completed}
use Rattle.group_laws.specs.run_journal.specs.Legal.{AreLegal, IsLegal, MayCome}
use Rattle.group_laws.specs.run_journal.specs.Standing.{StandsAs}
use Rattle.group_laws.specs.run_journal.specs.Told.{is_load, nothing_told, residents, told, told_after, told_from, Told}
use Rattle.group_laws.specs.run_journal.proofs.Growth.{residents_told_from}
use Rattle.group_laws.specs.run_journal.proofs.LegalGrowth.{loads_told}
use Rattle.group_laws.proofs.Counting.{count-without}
use Rattle.legal_laws.specs.Places.{is_departure, IsDepartureAt, IsLoadAt, StaysLoaded}
use Rattle.legal_laws.proofs.AtPlaces.{get_from_take, get_in_take, may_come_at}
use Rattle.legal_laws.proofs.Capacity.{kept_after, nothing_kept, IsKept}
use Rattle.legal_laws.proofs.Residence.{residence}

-- ---- which serial a load gives

-- what is counted of a list grows where something stands that counts
fewer_before : {X : Type 0} (p : X → Bool) (xs : List X) (a b : ℕ) (x : X) → slice_get xs a ≡ Some x → p x ≡ true → a < b → count_by p (take a xs) < count_by p (take b xs)
fewer_before p [] a b x there counts low = absurd (cc)
fewer_before p (y ∷ xs) a zero x there counts low = absurd (omega arith)
fewer_before p (y ∷ xs) zero (suc b) x there counts low =
    let one : cond {A = ℕ} (p y) 1 0 ≡ 1 = ap (λ b. cond {A = ℕ} b 1 0) (ap p (same_Some y x there) ∙ counts) in
    let first = count_by-cons p y (take b xs) in
    omega (arith, one, first)
fewer_before p (y ∷ xs) (suc a) (suc b) x there counts low =
    let rest = fewer_before p xs a b x there counts (omega arith) in
    let first = count_by-cons p y (take a xs) in
    let second = count_by-cons p y (take b xs) in
    omega (arith, rest, first, second)

module _ (j : List Entry) (legal : IsLegal j) where
  pub serial_at : (at : ℕ) (ident : Ident) (name : Name) → IsLoadAt j at ident name → ident.serial ≡ count_by is_load (take at j)
  serial_at at ident name is = (may_come_at j legal at (Loaded ident name is.0) is.1).happens.serial ∙ loads_told (take at j)

  pub loaded_once : (a b : ℕ) (ident : Ident) (first second : Name) → IsLoadAt j a ident first → IsLoadAt j b ident second → a ≡ b
  loaded_once a b ident first second one other =
      let serial = serial_at a ident first one in
      let again = serial_at b ident second other in
      elim (cases_lt a b) [
        | inl low ↦ (let more = fewer_before is_load j a b (Loaded ident first one.0) one.1 refl low in absurd (omega arith))
        | inr high ↦ elim (cases_lt b a) [
          | inl low ↦ (let more = fewer_before is_load j b a (Loaded ident second other.0) other.1 refl low in absurd (omega arith))
          | inr same ↦ omega arith
        ]
      ]

  -- what leaves was loaded before, and did not leave in between
  pub loaded_before : (at : ℕ) (ident : Ident) → IsDepartureAt j at ident → (name : Name) × StaysLoaded (take at j) ident name
  loaded_before at ident is =
      let may = (may_come_at j legal at (WrittenBack ident is.0 is.1) is.2).happens in
      let there : IsResident (residents (take at j)) ident may.resident.name =
      (may.resident, subst (λ (rs : List Resident). Contains rs may.resident) (residents_told_from nothing_told (take at j)) may.there, may.its, refl) in
      (may.resident.name, (residence (take at j) ident may.resident.name).0 there)

  pub left_once : (a b : ℕ) (ident : Ident) → IsDepartureAt j a ident → IsDepartureAt j b ident → a ≡ b
  left_once a b ident one other = elim (cases_lt a b) [
    | inl low ↦ absurd (not_again a b low one other)
    | inr high ↦ elim (cases_lt b a) [
      | inl low ↦ absurd (not_again b a low other one)
      | inr same ↦ omega arith
    ]
  ]
    where
      not_again : (a b : ℕ) → a < b → IsDepartureAt j a ident → IsDepartureAt j b ident → ⊥
      not_again a b low one other =
          let first = loaded_before a ident one in
          let second = loaded_before b ident other in
          let early = get_from_take a j first.1.at (Loaded ident first.0 first.1.loaded.0) first.1.loaded.1 in
          let late = get_from_take b j second.1.at (Loaded ident second.0 second.1.loaded.0) second.1.loaded.1 in
          let same = loaded_once first.1.at second.1.at ident first.0 second.0 (first.1.loaded.0, early.0) (second.1.loaded.0, late.0) in
          second.1.stays a (let lt = early.1 in omega arith) (one.0, one.1, get_in_take b j a (WrittenBack ident one.0 one.1) low one.2)

  -- ---- where an identifier stands

  -- what is resident has not left
  live_stays : (ident : Ident) (at : ℕ) → IsIdentResident (residents j) ident → IsDepartureAt j at ident → ⊥
  live_stays ident at r leaves =
      let lasts = (residence j ident r.0.name).0 (r.0, r.1, r.2, refl) in
      let before = loaded_before at ident leaves in
      let early = get_from_take at j before.1.at (Loaded ident before.0 before.1.loaded.0) before.1.loaded.1 in
      let same = loaded_once before.1.at lasts.at ident before.0 r.0.name (before.1.loaded.0, early.0) lasts.loaded in
      lasts.stays at (let lt = early.1 in omega arith) leaves

  was_loaded : (ident : Ident) (at : ℕ) → IsDepartureAt j at ident → (name : Name) × (cpu : ℕ) × Contains j (Loaded ident name cpu)
  was_loaded ident at leaves =
      let before = loaded_before at ident leaves in
      let early = get_from_take at j before.1.at (Loaded ident before.0 before.1.loaded.0) before.1.loaded.1 in
      (before.0, before.1.loaded.0, Contains-from_get j before.1.at (Loaded ident before.0 before.1.loaded.0) early.0)

  live_loaded : (ident : Ident) → IsIdentResident (residents j) ident → (name : Name) × (cpu : ℕ) × Contains j (Loaded ident name cpu)
  live_loaded ident r =
      let lasts = (residence j ident r.0.name).0 (r.0, r.1, r.2, refl) in
      (r.0.name, lasts.loaded.0, Contains-from_get j lasts.at (Loaded ident r.0.name lasts.loaded.0) lasts.loaded.1)

  pub one_standing : (ident : Ident) (a b : Standing) → StandsAs j ident a → StandsAs j ident b → a ≡ b
  one_standing ident Live Live one other = refl
  one_standing ident Live (Left at) one other = absurd (live_stays ident at one other)
  one_standing ident Live Never one other = absurd (other (live_loaded ident one))
  one_standing ident (Left at) Live one other = absurd (live_stays ident at other one)
  one_standing ident (Left at) (Left place) one other = ap Left (left_once at place ident one other)
  one_standing ident (Left at) Never one other = absurd (other (was_loaded ident at one))
  one_standing ident Never Live one other = absurd (one (live_loaded ident other))
  one_standing ident Never (Left at) one other = absurd (one (was_loaded ident at other))
  one_standing ident Never Never one other = refl

-- ---- how many are loaded, and leave

all_counted : {X : Type 0} (xs : List X) → count_by (λ (x : X). true) xs ≡ length xs
all_counted [] = refl
all_counted {X = X} (x ∷ xs) = let first = count_by-cons (λ (y : X). true) x xs in let rest = all_counted xs in omega arith

one_fewer : (k : Told) (ident : Ident) (cause : Cause) (cpu : ℕ) → MayCome k (WrittenBack ident cause cpu) → IsKept k → length (without ident k.residents) + 1 ≡ length k.residents
one_fewer k ident cause cpu may kept =
    let r = may.happens.resident in
    let counts = count-without (λ (x : Resident). true) r k.residents kept.apart may.happens.there in
    let less = all_counted (without r.ident k.residents) in
    let all = all_counted k.residents in
    let its : length (without r.ident k.residents) ≡ length (without ident k.residents) = ap (λ (i : Ident). length (without i k.residents)) may.happens.its in
    omega (arith, counts, less, all, its)

-- what an entry makes of the number of residents
abbrev Changes : Told → Entry → Type 0
Changes k e = length (told_after k e).residents + cond (is_departure e) 1 0 ≡ length k.residents + cond (is_load e) 1 0

back_changes : (k : Told) (ident : Ident) (cause : Cause) (cpu : ℕ) → length (without ident k.residents) + 1 ≡ length k.residents → Changes k (WrittenBack ident cause cpu)
back_changes k ident causes.Dependent cpu fewer = omega (arith, fewer)
back_changes k ident causes.Displaced cpu fewer = omega (arith, fewer)
back_changes k ident causes.Unloaded cpu fewer = omega (arith, fewer)

changes : (k : Told) (e : Entry) → MayCome k e → IsKept k → Changes k e
changes k (Declared d) may kept = refl
changes k Sealed may kept = refl
changes k (Loaded ident name cpu) may kept = let more = length-append k.residents (record { ident = ident; name = name; locked = false } ∷ []) in omega (arith, more)
changes k (WrittenBack ident cause cpu) may kept = back_changes k ident cause cpu (one_fewer k ident cause cpu may kept)
changes k (Locked ident cpu) may kept = let same = length-map k.residents (locked_if ident true) in omega (arith, same)
changes k (Unlocked ident cpu) may kept = let same = length-map k.residents (locked_if ident false) in omega (arith, same)
changes k (Ran thread steps cpu) may kept = refl
changes k (Ended thread cpu) may kept = refl
changes k (Completed thread cpu) may kept = refl

counted_from : (k : Told) (es : List Entry) → AreLegal k es → IsKept k → length (told_from k es).residents + count_by is_departure es ≡ length k.residents + count_by is_load es
counted_from k [] legal kept = refl
counted_from k (e ∷ es) legal kept =
    let now = changes k e legal.0 kept in
    let rest = counted_from (told_after k e) es legal.1 (kept_after k e legal.0 kept) in
    let left = count_by-cons is_departure e es in
    let loaded = count_by-cons is_load e es in
    omega (arith, now, rest, left, loaded)

pub counted : (j : List Entry) → IsLegal j → length (residents j) + count_by is_departure j ≡ count_by is_load j
counted j legal =
    let all = counted_from nothing_told j legal.each nothing_kept in
    let its : length (told j).residents ≡ length (residents j) = ap (λ (rs : List Resident). length rs) (residents_told_from nothing_told j) in
    omega (arith, all, its)
