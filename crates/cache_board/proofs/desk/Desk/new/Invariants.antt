use Rattle.std.proofs.Common.{◌≡◌, length}
use Rattle.cache_board.proofs.DeskLaws.{AllClear}
use Rattle.cache_board.proofs.desk.Desk.new.Given as goal

-- there are so many places, none with a ticket
abbrev pub invariant-loop-cpu : goal.invariant-loop-cpu
invariant-loop-cpu l = record {
  count : length l.places.items ≡ l._cpu;
  clear : AllClear l.places.items;
}
