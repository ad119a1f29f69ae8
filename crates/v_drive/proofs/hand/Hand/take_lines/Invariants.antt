use Rattle.std.proofs.Common.{◌≡◌, ◌+◌, ◌<◌, ◌^◌, ◌++◌, ℕ, List, length, Option}
use Rattle.cache_board.specs.board_core.specs.Core.{Recorded}
use Rattle.cache_board.specs.Desks.{AreOfTickets, Desktop}
use Rattle.v_drive.specs.Lines.{IsTaken}
use Rattle.v_drive.proofs.hand.Hand.take_lines.Given as goal

-- what is written so far, and what the lines that are left make of it is made of all
abbrev pub invariant-loop-rest : goal.invariant-loop-rest
invariant-loop-rest l = record {
  views : AreOfTickets l.self.board.journal.entries l.self.desk;
  few : l.at + length l.rest < 2 ^ 64;
  done : List ℕ;
  text : l.self.text.items ≡ l.fn.self.text.items ++ done;
  so_far : (fault : Option ℕ) (text : List ℕ) (new : Recorded) (laid : Desktop) → IsTaken l.rest l.at fault l.self.board l.self.desk text new laid
      → IsTaken l.lines l.fn.number fault l.fn.self.board l.fn.self.desk (done ++ text) new laid;
}

abbrev pub decreases-loop-rest : goal.decreases-loop-rest
decreases-loop-rest l = length l.rest
