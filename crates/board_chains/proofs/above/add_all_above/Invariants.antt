use Rattle.std.proofs.Common.{ℕ, ◌<◌, ◌-◌, get_or}
use Rattle.cache_ident.specs.declared.names.Name.{Name}
use Rattle.cached_machine.specs.Cached.{state_of}
use Rattle.board_chains.specs.Chains.{HasParents, IsPart, StartsWith}
use Rattle.board_chains.proofs.above.add_all_above.Given as goal

-- of those before this one all that they depend on is there
abbrev pub invariant-loop-at : goal.invariant-loop-at
invariant-loop-at l = record {
  part : (n : ℕ) → IsPart (state_of l.machine) n l.fn.names.items → IsPart (state_of l.machine) n l.names.items;
  starts : StartsWith l.fn.names.items l.names.items;
  closed : (k : ℕ) (d : Name) → k < l.at → HasParents (state_of l.machine) l.names.items (get_or l.names.items k d);
}

abbrev pub decreases-loop-at : goal.decreases-loop-at
decreases-loop-at l = 21 - l.at
