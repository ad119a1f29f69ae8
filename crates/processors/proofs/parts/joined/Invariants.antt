use Rattle.std.proofs.Common.{◌≡◌, ◌<◌, ◌∷◌, ◌++◌, length}
use Rattle.std.specs.List.{AllByRecursion}
use Rattle.std.specs.Vec.Iter.{into_iter_items, into_iter_len}
use mathlib.Core.List.{IsPrefix}
use Rattle.turn_lock.specs.Lists.{numbers}
use Rattle.turn_lock.specs.Passes.{IsPassOf, first_of, end_of, seen_of}
use Rattle.processors.specs.Parts.{AreParts}
use Rattle.processors.proofs.parts.joined.Given as goal

abbrev pub invariant-loop-part : goal.invariant-loop-part
invariant-loop-part g l = IsPassOf l.lock l.whole × (first_of l.whole ≡ 0) × (0 < end_of l.whole)
    × AreParts l.lock (end_of l.whole) numbers (into_iter_items l.part-iterator)
    × (l.initial.whole ∷ l.yielded ++ into_iter_items l.part-iterator ≡ l.fn.parts.items)
    × AllByRecursion (λ part. IsPrefix (seen_of part) (seen_of l.whole)) (l.initial.whole ∷ l.yielded)
    × (into_iter_len l.part-iterator ≡ length (into_iter_items l.part-iterator))
