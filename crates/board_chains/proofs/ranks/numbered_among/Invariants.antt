use Rattle.std.proofs.Common.{◌≡◌, ◌↔◌, ◌≤◌, false, length, take, Contains}
use Rattle.cache_ident.specs.declared.names.Name.{Name}
use Rattle.board_chains.specs.Ranks.{is_row, AreInOrder}
use Rattle.board_chains.proofs.ranks.numbered_among.Given as goal

-- of the names so far those that are no row's
abbrev pub invariant-loop-name : goal.invariant-loop-name
invariant-loop-name l = record {
  order : AreInOrder l.numbered.items;
  exact : (name : Name) → Contains l.numbered.items name ↔ (Contains (take l.name-index l.names) name × (is_row name ≡ false));
  few : length l.numbered.items ≤ l.name-index;
}
