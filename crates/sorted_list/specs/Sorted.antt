-- What a contract sees of a sorted list, and what an edit leaves.
use Rattle.std.specs.Prelude.{◌≡◌, ℕ, ◌<◌, ◌≤◌, ◌^◌, Bool, List, AllPairs, length, map, filter, insert, remove, slice_index_or}
use Rattle.std.specs.declared.cmp.Ordering.{Ordering}
use Rattle.std.specs.declared.cmp.Ordering.TheVariants.{Less}
use Rattle.std.specs.Ordering.{ordering_then}

-- how many entries there can be, and the entries
pub record Sorted (K V : Type 0) : Type 0 where
  pub room : ℕ
  pub entries : List (K × V)

-- each item is below those after it
abbrev pub IsRising : {T : Type 0} → (T → T → Ordering) → List T → Type 0
IsRising cmp items = AllPairs (λ a b. cmp a b ≡ Less) items

-- entries compare by their keys, and where these tie by their values
abbrev pub by_parts : {K V : Type 0} → (K → K → Ordering) → (V → V → Ordering) → K × V → K × V → Ordering
by_parts first second a b = ordering_then (first a.0 b.0) (second a.1 b.1)

-- what holds of each sorted list: its entries rise, and there are no more than it has room for
pub record IsProper {K V : Type 0} (first : K → K → Ordering) (second : V → V → Ordering) (sorted : Sorted K V) : Type 0 where
  pub rising : IsRising (by_parts first second) sorted.entries
  pub few : length sorted.entries ≤ sorted.room
  pub small : sorted.room < 2 ^ 32

-- the values of the entries with that key
abbrev pub values_under : {K V : Type 0} → (K → K → Bool) → List (K × V) → K → List V
values_under same entries key = map (λ entry. entry.1) (filter (λ entry. same entry.0 key) entries)

-- the new list has the item too, at some place, and else is the old one
abbrev pub IsAdded : {X : Type 0} → List X → List X → X → Type 0
IsAdded old new item = (at : ℕ) × (at ≤ length old) × (new ≡ insert old at item)

-- the new list lacks one place of the old one, where the item stood
abbrev pub IsTakenOut : {X : Type 0} → List X → List X → X → Type 0
IsTakenOut old new item = (at : ℕ) × (at < length old) × (slice_index_or old at item ≡ item) × (new ≡ remove old at)
