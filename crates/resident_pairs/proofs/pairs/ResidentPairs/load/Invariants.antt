use Rattle.std.proofs.Common.{◌≡◌}
use Rattle.resident_pairs.proofs.Loading.{IsLoadedWith}
use Rattle.resident_pairs.proofs.pairs.ResidentPairs.load.Given as goal

abbrev pub invariant-loop-parent : goal.invariant-loop-parent
invariant-loop-parent l = record {
  caps : l.self-inside.depends.caps ≡ l.fn.self.caps;
  scratch : l.self-inside.scratch.caps ≡ l.fn.self.caps;
  loaded : IsLoadedWith l.fn.self.pairs l.self-inside.depends.pairs l.child l.parents l.parent-index;
}
