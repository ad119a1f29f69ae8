use Rattle.std.proofs.Common.{ℕ, ◌<◌, get_or, Contains}
use Rattle.cache_ident.specs.declared.names.Name.{Name}
use Rattle.cached_machine.specs.Cached.{state_of}
use Rattle.board_chains.specs.Chains.{IsPart, StartsWith}
use Rattle.board_chains.proofs.above.add_parents.Given as goal

-- those before this one are there
abbrev pub invariant-loop-parent : goal.invariant-loop-parent
invariant-loop-parent l = record {
  part : (n : ℕ) → IsPart (state_of l.machine) n l.fn.names.items → IsPart (state_of l.machine) n l.names.items;
  starts : StartsWith l.fn.names.items l.names.items;
  all : (k : ℕ) (d : Name) → k < l.parent-index → Contains l.names.items (get_or l.above k d);
}
