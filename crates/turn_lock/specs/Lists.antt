-- Lists of entries, and the numbers of those who made them.
use Rattle.std.specs.Prelude.{ℕ, ◌<◌, ◌≤◌, ◌≡◌, ◌&&◌, ltb, leb, List, ◌++◌, length, if◌then◌else◌}
use Rattle.std.specs.List.{filter, AllByRecursion}

-- how many numbers there are to sign with
abbrev pub numbers : ℕ
numbers = 4294967295

-- the number k is in the range
abbrev pub IsWithin : ℕ → ℕ → ℕ → Type 0
IsWithin first end k = (first ≤ k) × (k < end)

module _ {E : Type 0} where
  abbrev pub longer : List E → List E → List E
  longer xs ys = if ltb (length xs) (length ys) then ys else xs

  abbrev pub shorter : List E → List E → List E
  shorter xs ys = if ltb (length xs) (length ys) then xs else ys

module _ {E : Type 0} (maker : E → ℕ) where
  -- the entries whose maker is in the range, in order
  abbrev pub entries_within : ℕ → ℕ → List E → List E
  entries_within first end xs = filter (λ e. leb first (maker e) && ltb (maker e) end) xs

  abbrev pub NoneWithin : ℕ → ℕ → List E → Type 0
  NoneWithin first end xs = AllByRecursion (λ e. IsWithin first end (maker e) → ⊥) xs

  abbrev pub AllMadeBelow : ℕ → List E → Type 0
  AllMadeBelow n xs = AllByRecursion (λ e. maker e < n) xs

  abbrev pub AllMadeBy : ℕ → List E → Type 0
  AllMadeBy n xs = AllByRecursion (λ e. maker e ≡ n) xs

  -- the list found, followed by entries of this maker
  abbrev pub IsContinuedBy : ℕ → List E → List E → Type 0
  IsContinuedBy n found now = (more : List E) × (found ++ more ≡ now) × AllMadeBy n more
