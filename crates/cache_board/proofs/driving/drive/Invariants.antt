use Rattle.std.proofs.Common.{◌≡◌, ◌+◌, ◌≤◌, ◌++◌, List, length, take, vec_capacity, vec_len}
use Rattle.board_core.specs.board_ops.specs.declared.answers.Answer.{Answer}
use Rattle.cache_board.specs.Desks.{AreOfTickets}
use Rattle.cache_board.specs.Drive.{AreAnswered}
use Rattle.cache_board.proofs.driving.drive.Given as goal

-- the operations so far are answered, and there is room for the answers of the others
abbrev pub invariant-loop-op : goal.invariant-loop-op
invariant-loop-op l = record {
  answered : (given : List Answer) × (l.answers.items ≡ l.initial.answers.items ++ given) × AreAnswered (take l.op-index l.ops) l.initial.board l.initial.desk given l.board l.desk;
  views : AreOfTickets l.board.journal.entries l.desk;
  room : vec_len l.answers + length l.ops ≤ vec_capacity l.answers + l.op-index;
}
