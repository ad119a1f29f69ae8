-- What stands in a roll whose serials are its places.
use Rattle.std.proofs.Common.{◌≡◌, ◌≢◌, ℕ, zero, suc, ◌+◌, ◌<◌, ◌≤◌, true, List, [], ◌∷◌, ◌++◌, length, get_or, set, Some, refl, arith, if◌then◌else◌, rules}
use Rattle.std.proofs.lemmas.Bool.Decides.{nat_tests}
use Rattle.cache_ident.specs.declared.idents.Ident.{Ident}
use Rattle.cache_ident.specs.declared.idents.Standing.TheVariants.{Live, Left, Never}
use Rattle.cache_ident.specs.declared.rolls.Issued.{Issued}
use Rattle.cache_ident.specs.contracts.idents.Kind.{the_type}
use denote.Enum.Bare.{same_true, true_same, sameb}
use Rattle.cache_ident.specs.Rolls.{IsNumberedFrom, departed, is_same, standing_in, standing_since}

-- an identifier is itself
pub is_same-refl : (a : Ident) → is_same a a ≡ true
is_same-refl a = let kind = true_same the_type a.kind a.kind refl in grind (arith, nat_tests)

-- identifiers that pass the test are one
pub same_ident : (a b : Ident) → is_same a b ≡ true → a ≡ b
same_ident a b same =
    let kind : sameb the_type a.kind b.kind ≡ true = grind (arith, nat_tests) in
    let one_kind = same_true the_type (search rules) a.kind b.kind kind in
    grind (arith, nat_tests, one_kind)

-- so their serials are equal
pub same_serial : (a b : Ident) → is_same a b ≡ true → a.serial ≡ b.serial
same_serial a b same = grind (arith, nat_tests)

-- a serial past the last is that of no entry
pub never_above : (n : ℕ) (issued : List Issued) (i : Ident) → IsNumberedFrom n issued → n + length issued ≤ i.serial → standing_in issued i ≡ Never
never_above n [] i numbered above = refl
never_above n (e ∷ rest) i numbered above = grind (arith, numbered.0, same_serial e.ident i, never_above (suc n) rest i numbered.1 (omega arith))

-- so is one below the first
pub never_below : (n : ℕ) (issued : List Issued) (i : Ident) → IsNumberedFrom n issued → i.serial < n → standing_in issued i ≡ Never
never_below n [] i numbered below = refl
never_below n (e ∷ rest) i numbered below = grind (arith, numbered.0, same_serial e.ident i, never_below (suc n) rest i numbered.1 (omega arith))

-- the next serial keeps the numbering
pub numbered-append : (n : ℕ) (issued : List Issued) (e : Issued) → IsNumberedFrom n issued → e.ident.serial ≡ n + length issued → IsNumberedFrom n (issued ++ e ∷ [])
numbered-append n [] e numbered next = (omega arith, tt)
numbered-append n (x ∷ rest) e numbered next = (numbered.0, numbered-append (suc n) rest e numbered.1 (omega arith))

-- the entry at a place decides where an identifier with that serial stands
pub standing_at : (n k : ℕ) (issued : List Issued) (d : Issued) (i : Ident) → IsNumberedFrom n issued → k < length issued → i.serial ≡ n + k → standing_in issued i ≡ (if is_same (get_or issued k d).ident i then standing_since (get_or issued k d).left else Never)
standing_at n k [] d i numbered within at = absurd (omega arith)
standing_at n zero (e ∷ rest) d i numbered within at = grind (arith, never_below (suc n) rest i numbered.1 (omega arith))
standing_at n (suc k) (e ∷ rest) d i numbered within at = grind (arith, numbered.0, same_serial e.ident i, standing_at (suc n) k rest d i numbered.1 (omega arith) (omega arith))

-- a live identifier has a serial that was issued
live_before : (n : ℕ) (issued : List Issued) (i : Ident) → IsNumberedFrom n issued → standing_in issued i ≡ Live → i.serial < n + length issued
live_before n [] i numbered live = absurd (cc)
live_before n (e ∷ rest) i numbered live = grind (arith, numbered.0, same_serial e.ident i, live_before (suc n) rest i numbered.1)

-- so its serial is below the number of those issued
pub live_within : (issued : List Issued) (i : Ident) → IsNumberedFrom 0 issued → standing_in issued i ≡ Live → i.serial < length issued
live_within issued i numbered live = omega (arith, live_before 0 issued i numbered live)

-- the identifiers of the entries stay, and so does their numbering
pub numbered-departed : (n : ℕ) (issued : List Issued) (i : Ident) (at : ℕ) → IsNumberedFrom n issued → IsNumberedFrom n (departed issued i at)
numbered-departed n [] i at numbered = tt
numbered-departed n (e ∷ rest) i at numbered = (numbered.0, numbered-departed (suc n) rest i at numbered.1)

-- where an identifier is no entry's, none departs by it
pub departed-never : (issued : List Issued) (i : Ident) (at : ℕ) → standing_in issued i ≡ Never → departed issued i at ≡ issued
departed-never [] i at never = refl
departed-never (e ∷ rest) i at never = grind (arith, nat_tests, departed-never rest i at)

-- a departure writes the entry at the place of the serial
pub set_departed : (n k : ℕ) (issued : List Issued) (d : Issued) (i : Ident) (at : ℕ) → IsNumberedFrom n issued → k < length issued → i.serial ≡ n + k → is_same (get_or issued k d).ident i ≡ true → set issued k (record { ident = (get_or issued k d).ident; left = Some at }) ≡ departed issued i at
set_departed n k [] d i at numbered within place same = absurd (omega arith)
set_departed n zero (e ∷ rest) d i at numbered within place same = rw (same, departed-never rest i at (never_below (suc n) rest i numbered.1 (omega arith)))
set_departed n (suc k) (e ∷ rest) d i at numbered within place same = grind (arith, numbered.0, same_serial e.ident i, set_departed (suc n) k rest d i at numbered.1 (omega arith) (omega arith) same)

-- an identifier that was issued has left after its departure
pub standing_in-departed : (issued : List Issued) (i : Ident) (at : ℕ) → standing_in issued i ≡ Live → standing_in (departed issued i at) i ≡ Left at
standing_in-departed [] i at live = absurd (cc)
standing_in-departed (e ∷ rest) i at live = grind (arith, nat_tests, standing_in-departed rest i at)

-- every other one stands as before
pub standing_in-departed_other : (issued : List Issued) (i : Ident) (at : ℕ) (j : Ident) → j ≢ i → standing_in (departed issued i at) j ≡ standing_in issued j
standing_in-departed_other [] i at j other = refl
standing_in-departed_other (e ∷ rest) i at j other = grind (arith, nat_tests, same_ident e.ident i, same_ident e.ident j, standing_in-departed_other rest i at j other)

-- the entry at the place of a live identifier is its own
live_same : (issued : List Issued) (d : Issued) (i : Ident) → IsNumberedFrom 0 issued → standing_in issued i ≡ Live → is_same (get_or issued i.serial d).ident i ≡ true
live_same issued d i numbered live = grind (arith, nat_tests, standing_at 0 i.serial issued d i numbered (live_within issued i numbered live) (omega arith))

-- to write the entry at the place of a live identifier is its departure
pub set_live : (issued : List Issued) (e : Issued) (i : Ident) (at : ℕ) → IsNumberedFrom 0 issued → standing_in issued i ≡ Live → e ≡ get_or issued i.serial e → set issued i.serial (record { ident = e.ident; left = Some at }) ≡ departed issued i at
set_live issued e i at numbered live there =
    let writes = set_departed 0 i.serial issued e i at numbered (live_within issued i numbered live) (omega arith) (live_same issued e i numbered live) in
    rw (← there) at writes
