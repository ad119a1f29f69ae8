use Rattle.std.proofs.Common.{sym, ◌∙◌, arith}
use Rattle.board_core.specs.cached_machine.specs.Cached.{state_of}
use Rattle.board_threads.specs.Tests.{completes}
use Rattle.board_threads.proofs.SettleLemmas.{all_done, all_stalled, completable_runs, none_first, runnable_runs, runnable_spent, some_first}
use Rattle.board_threads.proofs.standing.settled.Goals as goal

pub returns-then-is_some : goal.returns-then-is_some
returns-then-is_some c =
    let b = c.args.core.now in
    let n = some_first (completes b) c.next_completable.result c.next_completable.ensures (sym c.is_some.ensures ∙ c.if-is_some.true) in
    completable_runs (state_of b.machine) b.steps b.limit n.0 n.1

pub returns-then-steps_left-eq0 : goal.returns-then-steps_left-eq0
returns-then-steps_left-eq0 c =
    let b = c.args.core.now in
    let none = none_first (completes b) c.next_completable.result c.next_completable.ensures (sym c.is_some.ensures ∙ c.if-is_some.false) in
    runnable_spent (state_of b.machine) b.steps b.limit none (sym c.is_one_runnable.ensures ∙ c.if-is_one_runnable.true) (omega (arith, c.steps_left.ensures, c.if-steps_left-eq0.true))

pub returns-else-steps_left-eq0 : goal.returns-else-steps_left-eq0
returns-else-steps_left-eq0 c =
    let b = c.args.core.now in
    let none = none_first (completes b) c.next_completable.result c.next_completable.ensures (sym c.is_some.ensures ∙ c.if-is_some.false) in
    runnable_runs (state_of b.machine) b.steps b.limit none (sym c.is_one_runnable.ensures ∙ c.if-is_one_runnable.true) (λ all. omega (arith, c.steps_left.ensures, c.if-steps_left-eq0.false))

pub returns-then-have_all_ended : goal.returns-then-have_all_ended
returns-then-have_all_ended c =
    let b = c.args.core.now in
    let none = none_first (completes b) c.next_completable.result c.next_completable.ensures (sym c.is_some.ensures ∙ c.if-is_some.false) in
    all_done (state_of b.machine) b.steps b.limit none (sym c.is_one_runnable.ensures ∙ c.if-is_one_runnable.false) (sym c.have_all_ended.ensures ∙ c.if-have_all_ended.true)

pub returns-else-have_all_ended : goal.returns-else-have_all_ended
returns-else-have_all_ended c =
    let b = c.args.core.now in
    let none = none_first (completes b) c.next_completable.result c.next_completable.ensures (sym c.is_some.ensures ∙ c.if-is_some.false) in
    all_stalled (state_of b.machine) b.steps b.limit none (sym c.is_one_runnable.ensures ∙ c.if-is_one_runnable.false) (sym c.have_all_ended.ensures ∙ c.if-have_all_ended.false)
