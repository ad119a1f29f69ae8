use Rattle.std.proofs.Common.{◌≡◌, ◌<◌, ℕ, false, length, Some, slice_get}
use Rattle.paged_steps.proofs.notes.clear.Given as goal

abbrev pub invariant-loop-n : goal.invariant-loop-n
invariant-loop-n l = record {
  none : (n : ℕ) → n < l.n → slice_get l.notes.items n ≡ Some false;
  len : length l.notes.items ≡ length l.initial.notes.items;
}
