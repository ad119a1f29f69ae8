use Rattle.std.proofs.Common.{ℕ, ◌<◌, ◌≤◌, ◌-◌, length, get_or}
use Rattle.cache_ident.specs.declared.names.Name.{Name}
use Rattle.board_chains.specs.Ranks.{IsBefore}
use Rattle.board_chains.proofs.ranks.insert.Given as goal

-- those before this place come before the name
abbrev pub invariant-loop-at : goal.invariant-loop-at
invariant-loop-at l = record {
  within : l.at ≤ length l.numbered.items;
  before : (k : ℕ) (d : Name) → k < l.at → IsBefore (get_or l.numbered.items k d) l.name;
}

abbrev pub decreases-loop-at : goal.decreases-loop-at
decreases-loop-at l = length l.numbered.items - l.at
