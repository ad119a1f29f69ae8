-- Parts of the numbers of a lock.
use Rattle.std.specs.Prelude.{◌≡◌, ℕ, ◌<◌, List, [], ◌∷◌}
use Rattle.turn_lock.specs.declared.history.History.{Ghosts}
use Rattle.turn_lock.specs.declared.pass.Pass.{Pass}
use Rattle.turn_lock.specs.declared.turn.Turn.{Turn}
use mathlib.Core.List.{IsPrefix}
use Rattle.turn_lock.specs.Passes.{first_of, end_of, seen_of, HasSameRange, IsPassOf}

module _ {X E : Type 0} {g : Ghosts X E} (lock : Turn X E) where
  -- Passes of the lock, each of which begins where the one before it ends: the first of them begins here, and the last ends there.
  abbrev pub AreParts : ℕ → ℕ → List (Pass X E g) → Type 0
  AreParts first end [] = first ≡ end
  AreParts first end (p ∷ ps) = IsPassOf lock p × (first_of p ≡ first) × (first < end_of p) × AreParts (end_of p) end ps

  -- a pass of the lock that came back, with the same range, and has seen all that it had, and maybe more
  pub record HasGoneOn (before after : Pass X E g) : Type 0 where
    pub of_lock : IsPassOf lock after
    pub range : HasSameRange before after
    pub begins : IsPrefix (seen_of before) (seen_of after)
