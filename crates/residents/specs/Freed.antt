-- Slots that were freed.
use Rattle.std.specs.Prelude.{◌≡◌, ℕ, ◌<◌, true}
use Rattle.std.specs.Ordering.{nat_cmp}
use Rattle.std.specs.BTreeSet.{BTreeSet, contains}

-- freed slots were taken once
abbrev pub AreBelow : ℕ → BTreeSet ℕ → Type 0
AreBelow top freed = (slot : ℕ) → contains nat_cmp freed slot ≡ true → slot < top
