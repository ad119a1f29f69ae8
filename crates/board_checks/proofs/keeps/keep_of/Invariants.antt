use Rattle.std.proofs.Common.{ℕ, ◌<◌, ◌-◌, get_or}
use Rattle.cache_ident.specs.declared.idents.Ident.{Ident}
use Rattle.desc_tables.specs.Keeps.{KeepsParentsAs, KeepsParentsOf}
use Rattle.board_checks.specs.Keeps.{IsKept}
use Rattle.board_checks.proofs.keeps.keep_of.Given as goal

-- of those before this one all that they depend on is kept
abbrev pub invariant-loop-at : goal.invariant-loop-at
invariant-loop-at l = record {
  kept : IsKept l.tables.contents l.fn.name l.keep.items;
  has : KeepsParentsOf l.tables.contents l.keep.items l.fn.name;
  closed : (k : ℕ) (d : Ident) → k < l.at → KeepsParentsAs l.tables.contents l.keep.items (get_or l.keep.items k d);
}

abbrev pub decreases-loop-at : goal.decreases-loop-at
decreases-loop-at l = 21 - l.at
