-- How turns alternate.
use Rattle.std.specs.Prelude.{ℕ, ◌+◌, ◌%◌, ◌==◌, ◌||◌, Bool, if◌then◌else◌, min}
use Rattle.board_turns.specs.declared.pace.Pace.{Pace}

-- where a processor is in its turns
pub record Beat : Type 0 where
  pub barren : ℕ
  pub turns : ℕ

abbrev pub beat_of : Pace → Beat
beat_of pace = record { barren = pace.barren; turns = pace.turns }

-- three turns in a row brought nothing
abbrev pub must_bring : Beat → Bool
must_bring beat = beat.barren == 3

-- the turn to come has to bring something, or is a sixteenth one
abbrev pub wants_first : Beat → Bool
wants_first beat = must_bring beat || (beat.turns + 1 == 16)

-- how many turns in a row brought nothing, once one more was taken: three stand for any more
abbrev pub barren_after : Bool → ℕ → ℕ
barren_after brought barren = if brought then 0 else min (barren + 1) 3

-- .. once a turn was taken
abbrev pub paced : Bool → Beat → Beat
paced brought beat = record { barren = barren_after brought beat.barren; turns = (beat.turns + 1) % 16 }
