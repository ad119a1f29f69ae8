use Rattle.std.proofs.Common.{sym, ◌∙◌}
use Rattle.flat_state.specs.Signals.{is_runnable}
use Rattle.board_core.specs.cached_machine.specs.Cached.{state_of}
use Rattle.board_threads.specs.Tests.{goes_on}
use Rattle.board_threads.proofs.SettleLemmas.{found_by, none_passes, one_passes}
use Rattle.board_threads.proofs.TestLemmas.{idle_going, none_at_all}
use Rattle.board_threads.proofs.standing.is_one_runnable.Goals as goal

pub returns-then-is_runnable : goal.returns-then-is_runnable
returns-then-is_runnable c =
    let s = state_of c.args.core.now.machine in
    let t = found_by (is_runnable s) s.threads c.in-Some.no.0 (sym c.is_runnable.ensures ∙ c.if-is_runnable.true) in
    sym (one_passes (is_runnable s) s.threads c.in-Some.no.0 t.0 t.1 t.2)

pub returns : goal.returns
returns c =
    let b = c.args.core.now in
    let s = state_of b.machine in
    sym (none_passes (is_runnable s) s.threads (none_at_all (goes_on b) b (idle_going b) c.loop-no.from c.loop-no.invariant c.in_default.ensures.first))
