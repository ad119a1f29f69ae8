-- Which slots of a kind are taken.
use Rattle.std.specs.Prelude.{◌≡◌, ℕ, ◌+◌, ◌<◌, false}
use Rattle.std.specs.Ordering.{nat_cmp}
use Rattle.std.specs.BTreeSet.{btree_set_len, contains}
use Rattle.residents.specs.declared.slots.Slots.{Slots}

-- it is below the first that was never taken, and was not freed since
abbrev pub IsTakenIn : Slots → ℕ → Type 0
IsTakenIn slots slot = (slot < slots.top) × (contains nat_cmp slots.freed slot ≡ false)

-- it is free, and each one below is taken
pub record IsLowest (slots : Slots) (slot : ℕ) : Type 0 where
  pub free : IsTakenIn slots slot → ⊥
  pub below : (other : ℕ) → other < slot → IsTakenIn slots other

-- so many are taken: with those that were freed since, all that ever were
abbrev pub IsCount : Slots → ℕ → Type 0
IsCount slots n = n + btree_set_len slots.freed ≡ slots.top
