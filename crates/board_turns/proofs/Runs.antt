-- How many steps a run ahead comes to.
use Rattle.std.proofs.Common.{◌≡◌, ℕ, zero, suc, ◌+◌, ◌<◌, ◌≤◌, Bool, true, false, Option, Some, None, refl, sym, ap, subst, arith}
use Rattle.std.specs.Prelude.{if◌then◌else◌, nat_le}
use Rattle.std.specs.Option.{option_or}
use Rattle.std.proofs.lemmas.Bool.{leb-false}
use Rattle.quantum.specs.declared.paused.Paused.{Paused}
use Rattle.quantum.specs.declared.paused.Paused.TheVariants.{Limit}
use Rattle.board_turns.specs.declared.committed.Committed.{Committed}
use Rattle.board_turns.specs.declared.committed.Committed.TheVariants.{Taken, TooMany, Lost}
use Rattle.board_turns.specs.Holds.{AreFewer}
use Rattle.quantum.specs.Ahead.{at_limit, further, one_ahead, pause_at, pause_before, standing, Ahead, IsRun}

steps_further : (k : ℕ) (a : Ahead) → (further k a).steps ≡ a.steps + k
steps_further zero a = omega arith
steps_further (suc k) a = let more = steps_further k (one_ahead a) in omega (arith, more)

-- where a run doesn't pause it is below its limit
goes_below : (limit steps : ℕ) (stands before : Option Paused) → option_or stands (option_or (at_limit limit steps) before) ≡ None → steps < limit
goes_below limit steps (Some paused) before none = absurd (cc)
goes_below limit steps None before none = by (nat_le limit steps) refl none
  where
    by : (b : Bool) → nat_le limit steps ≡ b → option_or (if b then Some Limit else None) before ≡ None → steps < limit
    by true is none = absurd (cc)
    by false is none = leb-false limit steps is

within : (limit count : ℕ) (a : Ahead) → a.steps ≤ limit → ((k : ℕ) → k < count → pause_at limit (further k a) ≡ None) → (further count a).steps ≤ limit
within limit zero a few went = few
within limit (suc k) a few went =
    let below : (further k a).steps < limit = goes_below limit (further k a).steps (standing (further k a).paused) (pause_before (further k a)) (went k (omega arith)) in
    let here = steps_further k a in
    let there = steps_further (suc k) a in
    omega (arith, below, here, there)

pub few_steps : (limit : ℕ) (before after : Ahead) (answer : Paused) → IsRun limit before after answer → before.steps ≤ limit → after.steps ≤ limit
few_steps limit before after answer run few =
    subst (λ (n : ℕ). n ≤ limit) (sym (ap (λ (a : Ahead). a.steps) run.took)) (within limit run.count before few run.went_on)

pub fewer_than : (n m : ℕ) (committed : Committed) → n ≤ m → AreFewer n committed → AreFewer m committed
fewer_than n m (Taken looked) few fewer = tt
fewer_than n m (TooMany left) few fewer = omega (arith, few, fewer)
fewer_than n m Lost few fewer = tt
