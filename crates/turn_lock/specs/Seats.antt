-- Where the seat of a pass and the seat of a holder stand.
use Rattle.std.specs.Prelude.{◌≡◌, ℕ, ◌<◌, ◌≤◌, Bool, true, false, [], ◌∷◌, Option, None}
use Rattle.atomic_table.specs.Seated.{TableId}
use Rattle.atomic_table.specs.declared.shared.Seat.{Seat}
use Rattle.turn_lock.specs.declared.rule.View.{View}
use Rattle.turn_lock.specs.declared.rule.Stage.{Stage}
use Rattle.turn_lock.specs.declared.rule.Stage.TheVariants.{Idle, Waits, Holds, Leaves, Joined}
use Rattle.turn_lock.specs.Lists.{numbers}

-- three words, and a slot for the value
abbrev pub IsLockTable : TableId → Type 0
IsLockTable z = (z.words ≡ 3) × (z.slots ≡ 1)

module _ {E : Type 0} where
  abbrev pub has_turn : Stage E → Bool
  has_turn Idle = false
  has_turn (Waits t) = false
  has_turn (Holds t) = true
  has_turn (Leaves t) = false
  has_turn (Joined xs) = false

module _ {X E : Type 0} where
  -- the seat has a range that begins with this number
  abbrev pub Signs : Seat (Option X) (View E) → ℕ → Type 0
  Signs s n = (s.me.0.first ≡ n) × (n < s.me.0.end) × (s.me.0.end ≤ numbers)

  -- it is on no way through the lock
  abbrev pub IsAtRest : Seat (Option X) (View E) → Type 0
  IsAtRest s = (s.me.0.stage ≡ Idle) × (s.me.1 ≡ [])

  -- the value is out with it, and nothing is left in its place
  abbrev pub HasTakenOut : Seat (Option X) (View E) → Type 0
  HasTakenOut s = (has_turn s.me.0.stage ≡ true) × (s.me.1 ≡ (0, None) ∷ [])
