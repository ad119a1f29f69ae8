use Rattle.std.proofs.Common.{◌≡◌, ◌++◌, All, drop, map}
use Rattle.journal_picture.specs.Lives.{EndsIn, load_of, loads_from}
use Rattle.journal_picture.proofs.lives.lives.Given as goal

abbrev pub invariant-loop-entry : goal.invariant-loop-entry
invariant-loop-entry l = record {
  place : l.place ≡ l.entry-index;
  loads : map load_of l.lives.items ++ loads_from l.place (drop l.entry-index l.entries) ≡ loads_from 0 l.entries;
  ends : All (EndsIn l.entries) l.lives.items;
}
