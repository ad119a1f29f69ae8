-- How a call of the board is answered.
use Rattle.std.specs.Prelude.{◌≡◌, ℕ, ◌+◌, ◌≤◌, ◌⊎◌, Option, Some}
use Rattle.board_ops.specs.declared.refusals.Refused.{Refused}
use Rattle.board_ops.specs.declared.refusals.Refused.TheVariants.{NoMemory}
use Rattle.board_core.specs.Core.{contents_of, Recorded}
use Rattle.board_core.specs.Growth.{count_loaded, IsRoomMade}

-- It was refused for want of memory, or for the reason that there is. All but room is as it was.
pub record IsRefused (refusal : Option Refused) (old new : Recorded) (given : Refused) : Type 0 where
  pub why : (given ≡ NoMemory) ⊎ (refusal ≡ Some given)
  pub only : IsRoomMade old new

-- beside what is loaded, so many identifiers and entries more take no memory
pub record HasSpare (b : Recorded) (more : ℕ) : Type 0 where
  pub entries : count_loaded b + more ≤ b.journal.spare
  pub issues : count_loaded b + more ≤ (contents_of b).spare

-- beside what is loaded, so much that no call wants memory but those that say so: all that a step may have to load, and the step
abbrev pub HasCallRoom : Recorded → Type 0
HasCallRoom b = HasSpare b 22
