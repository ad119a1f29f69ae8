use Rattle.std.proofs.Common.{◌≡◌, ℕ, true, length, take, Some, slice_get}
use Rattle.paged_steps.specs.Knowing.{AreWatched}
use Rattle.paged_steps.proofs.notes.watch.Given as goal

abbrev pub invariant-loop-view : goal.invariant-loop-view
invariant-loop-view l = record {
  so_far : AreWatched l.watched.items (take l.view-index l.copies);
  more : (f : ℕ) → slice_get l.initial.watched.items f ≡ Some true → slice_get l.watched.items f ≡ Some true;
  len : length l.watched.items ≡ length l.initial.watched.items;
}
