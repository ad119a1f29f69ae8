-- A list of residents in the order of a roll.
use Rattle.std.proofs.Common.{◌≡◌, ℕ, suc, ◌<◌, ◌≤◌, Bool, true, false, cond, List, [], ◌∷◌, filter_map, All, AllPairs, Contains, Option, Some, None, refl, arith}
use Rattle.std.specs.List.{cons_option}
use Rattle.std.proofs.lemmas.List.Elements.{All-cons, All-nil, All-weaker}
use Rattle.std.proofs.lemmas.List.Kept.{AllPairs-cons}
use Rattle.cache_ident.specs.declared.idents.Ident.{Ident}
use Rattle.cache_ident.specs.declared.idents.Standing.TheVariants.{Live}
use Rattle.cache_ident.specs.declared.rolls.Issued.{Issued}
use Rattle.cache_ident.specs.Residents.{Resident}
use Rattle.cache_ident.specs.Rolls.{is_same, standing_in, standing_since, IsNumberedFrom}
use Rattle.cache_ident.proofs.RollLemmas.{same_ident}
use Rattle.resident_pairs.specs.flat_laws.proofs.Members.{Contains-behind, Contains-here}

-- what is live was issued
pub live_entry : (issued : List Issued) (i : Ident) → standing_in issued i ≡ Live → (e : Issued) × Contains issued e × (e.ident ≡ i)
live_entry [] i live = absurd (cc)
live_entry (e ∷ rest) i live = by (λ later. live_entry rest i later) (is_same e.ident i) refl live
  where
    by : (standing_in rest i ≡ Live → (x : Issued) × Contains rest x × (x.ident ≡ i)) → (b : Bool) → is_same e.ident i ≡ b → cond b (standing_since e.left) (standing_in rest i) ≡ Live → (x : Issued) × Contains (e ∷ rest) x × (x.ident ≡ i)
    by next true passes here = (e, Contains-here e rest, same_ident e.ident i passes)
    by next false fails later = let x = next later in (x.0, Contains-behind e rest x.0 x.1, x.2)

-- each has a higher serial than those before it
abbrev pub IsRising : List Resident → Type 0
IsRising rs = AllPairs (λ a b. a.ident.serial < b.ident.serial) rs

-- each has that serial or a higher one
abbrev IsFrom : ℕ → List Resident → Type 0
IsFrom n rs = All (λ r. n ≤ r.ident.serial) rs

rising-cons : (n : ℕ) (o : Option Resident) (rs : List Resident) → ((r : Resident) → o ≡ Some r → r.ident.serial ≡ n) → IsFrom (suc n) rs → IsRising rs → IsFrom n (cons_option o rs) × IsRising (cons_option o rs)
rising-cons n None rs its above rising = (All-weaker (λ (r : Resident). suc n ≤ r.ident.serial) (λ (r : Resident). n ≤ r.ident.serial) (λ r higher. omega (arith, higher)) rs above, rising)
rising-cons n (Some r) rs its above rising =
    let first = its r refl in
    let higher = All-weaker (λ (x : Resident). suc n ≤ x.ident.serial) (λ (x : Resident). n ≤ x.ident.serial) (λ x over. omega (arith, over)) rs above in
    let behind = All-weaker (λ (x : Resident). suc n ≤ x.ident.serial) (λ (x : Resident). r.ident.serial < x.ident.serial) (λ x over. omega (arith, over, first)) rs above in
    (All-cons (λ (x : Resident). n ≤ x.ident.serial) r rs (omega (arith, first)) higher, AllPairs-cons (λ (a : Resident) (b : Resident). a.ident.serial < b.ident.serial) r rs behind rising)

module _ (has : Ident → Option Resident) (own : (i : Ident) (r : Resident) → has i ≡ Some r → r.ident ≡ i) where
  rising_from : (n : ℕ) (issued : List Issued) → IsNumberedFrom n issued → IsFrom n (filter_map (λ entry. has entry.ident) issued) × IsRising (filter_map (λ entry. has entry.ident) issued)
  rising_from n [] numbered = (All-nil (λ (r : Resident). n ≤ r.ident.serial), λ i j d lt within. absurd (omega (arith, within)))
  rising_from n (e ∷ rest) numbered =
      let later = rising_from (suc n) rest numbered.1 in
      rising-cons n (has e.ident) (filter_map (λ entry. has entry.ident) rest) (λ r is. cc (own e.ident r is, numbered.0)) later.0 later.1

  pub rising : (issued : List Issued) → IsNumberedFrom 0 issued → IsRising (filter_map (λ entry. has entry.ident) issued)
  rising issued numbered = (rising_from 0 issued numbered).1
