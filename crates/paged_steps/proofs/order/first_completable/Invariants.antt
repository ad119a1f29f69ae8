use Rattle.std.proofs.Common.{◌≡◌, false, take}
use Rattle.std.specs.List.{list_any}
use Rattle.flat_state.specs.Call.{is_completable}
use Rattle.paged_steps.proofs.order.first_completable.Given as goal

-- none so far
abbrev pub invariant-loop-at : goal.invariant-loop-at
invariant-loop-at l = list_any is_completable (take l.at l.tables.threads) ≡ false
