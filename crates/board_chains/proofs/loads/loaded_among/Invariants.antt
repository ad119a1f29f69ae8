use Rattle.std.proofs.Common.{◌≡◌, ◌≤◌, length, take}
use Rattle.cached_machine.specs.desc_parents.specs.Idents.{idents_of}
use Rattle.cached_machine.specs.desc_stores.specs.Contents.{residents_of}
use Rattle.board_chains.proofs.loads.loaded_among.Given as goal

-- the identifiers so far
abbrev pub invariant-loop-name : goal.invariant-loop-name
invariant-loop-name l = record {
  idents : l.idents.items ≡ idents_of (residents_of l.machine.held.contents) (take l.name-index l.names);
  few : length l.idents.items ≤ l.name-index;
}
