-- How many slots were freed.
use Rattle.std.proofs.Common.{ℕ, ◌≤◌, get_or}
use Rattle.std.specs.Ordering.{nat_cmp}
use Rattle.std.specs.BTreeSet.{BTreeSet, IsOrdered, btree_set_len}
use Rattle.std.proofs.lemmas.Cmp.{nat_cmp_total}
use Rattle.std.proofs.lemmas.Map.Views.{All-set_contains, length-le_from_below}
use Rattle.residents.specs.Freed.{AreBelow}

-- no more were freed than ever were taken
pub freed-le : (top : ℕ) (freed : BTreeSet ℕ) → AreBelow top freed → IsOrdered nat_cmp freed → btree_set_len freed ≤ top
freed-le top freed below ordered = length-le_from_below top freed.keys ordered (λ k d low. below (get_or freed.keys k d) (All-set_contains nat_cmp_total freed k d low))
