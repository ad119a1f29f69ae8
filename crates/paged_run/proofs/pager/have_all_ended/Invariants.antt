use Rattle.std.proofs.Common.{◌≡◌, true, take}
use Rattle.std.specs.List.{list_all}
use Rattle.flat_rules.specs.flat_state.specs.State.{is_ended}
use Rattle.paged_run.proofs.pager.have_all_ended.Given as goal

abbrev pub invariant-loop-number : goal.invariant-loop-number
invariant-loop-number l = list_all (λ t. is_ended t.status) (take l.number l.tables.threads) ≡ true
