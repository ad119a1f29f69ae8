-- What is known of a processor that shares a board with others.
use Rattle.std.specs.Prelude.{◌≡◌, ℕ, ◌<◌, ◌≤◌, List, [], Option, Some, None}
use mathlib.Core.List.{IsPrefix}
use Rattle.atomic_table.specs.Seated.{TableId}
use Rattle.turn_lock.specs.declared.history.History.{Ghosts}
use Rattle.turn_lock.specs.declared.pass.Pass.{Pass}
use Rattle.turn_lock.specs.declared.turn.Turn.{Turn}
use Rattle.turn_lock.specs.Passes.{end_of, first_of, seen_of, IsPassOf}
use Rattle.alone_run.specs.run_journal.specs.declared.entries.Entry.{Entry}
use Rattle.alone_run.specs.run_journal.specs.Entries.{steps_in}
use Rattle.alone_run.specs.owner_ports.specs.declared.port.Heard.{Heard}
use Rattle.alone_run.specs.board_core.specs.Core.{Recorded}
use Rattle.alone_run.specs.board_turns.specs.declared.found.Found.{Found}
use Rattle.alone_run.specs.board_turns.specs.Looks.{IsSoWhere}

-- A processor that shares a board: behind which lock the board is; the processor's number, which its pass begins with, and where the
-- numbers of the pass end; what it has seen of the board's past; with how many steps it stops; what went through it, and how many of
-- its calls brought something.
pub record Sharer : Type 0 where
  pub lock : TableId
  pub cpu : ℕ
  pub end : ℕ
  pub seen : List (Entry × ℕ)
  pub limit : ℕ
  pub heard : Heard
  pub brought : ℕ

-- it is the same processor on the same board, and all that was seen stays
pub record SeesMore (old new : Sharer) : Type 0 where
  pub lock : new.lock ≡ old.lock
  pub cpu : new.cpu ≡ old.cpu
  pub end : new.end ≡ old.end
  pub limit : new.limit ≡ old.limit
  pub seen : IsPrefix old.seen new.seen

-- what is so where the processor of that number, which stops with so many steps, has seen this journal and found that last
abbrev pub IsSoOf : ℕ → ℕ → List Entry → Found → Type 0
IsSoOf cpu limit j = IsSoWhere cpu (limit ≤ steps_in j) j

-- ---- the pass that it has between two holds

module _ {g : Ghosts Recorded (Entry × ℕ)} where
  abbrev pub IsThere : Turn Recorded (Entry × ℕ) → Option (Pass Recorded (Entry × ℕ) g) → Type 0
  IsThere lock None = ⊥
  IsThere lock (Some pass) = IsPassOf lock pass

  abbrev pub first_by : Option (Pass Recorded (Entry × ℕ) g) → ℕ
  first_by None = 0
  first_by (Some pass) = first_of pass

  abbrev pub end_by : Option (Pass Recorded (Entry × ℕ) g) → ℕ
  end_by None = 0
  end_by (Some pass) = end_of pass

  abbrev pub seen_by : Option (Pass Recorded (Entry × ℕ) g) → List (Entry × ℕ)
  seen_by None = []
  seen_by (Some pass) = seen_of pass

  pub record Stands (lock : Turn Recorded (Entry × ℕ)) (cpu : ℕ) (pass : Option (Pass Recorded (Entry × ℕ) g)) : Type 0 where
    pub below : cpu < 8
    pub there : IsThere lock pass
    pub number : first_by pass ≡ cpu
