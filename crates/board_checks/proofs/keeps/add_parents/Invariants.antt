use Rattle.std.proofs.Common.{ℕ, ◌<◌, get_or, Contains}
use Rattle.cache_ident.specs.declared.idents.Ident.{Ident}
use Rattle.cache_ident.specs.declared.names.Name.{Name}
use Rattle.board_checks.specs.Keeps.{IsKept, IsOrIsAbove, StartsWith}
use Rattle.board_checks.proofs.keeps.add_parents.Given as goal

-- those before this one are kept
abbrev pub invariant-loop-parent : goal.invariant-loop-parent
invariant-loop-parent l = record {
  kept : (root : Name) → IsKept l.tables.contents root l.fn.keep.items → IsOrIsAbove l.tables.contents root l.fn.name → IsKept l.tables.contents root l.keep.items;
  starts : StartsWith l.fn.keep.items l.keep.items;
  all : (k : ℕ) (d : Ident) → k < l.parent-index → Contains l.keep.items (get_or l.parents k d);
}
