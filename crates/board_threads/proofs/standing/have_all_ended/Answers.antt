use Rattle.std.proofs.Common.{length, sym, ap, ◌∙◌, arith}
use Rattle.flat_state.specs.State.{is_ended}
use Rattle.board_core.specs.cached_machine.specs.Cached.{state_of, Cached}
use Rattle.board_core.specs.cached_machine.proofs.AlikeLaws.{at_place}
use Rattle.board_threads.specs.Tests.{passes}
use Rattle.board_threads.proofs.SettleLemmas.{one_fails, one_more_passes}
use Rattle.board_threads.proofs.standing.have_all_ended.Goals as goal

pub returns-then-not-has_ended : goal.returns-then-not-has_ended
returns-then-not-has_ended c =
    let ts = (state_of c.args.core.now.machine).threads in
    let n = c.loop-number.number in
    let t = at_place ts n (omega (arith, ap (λ (m : Cached). length (state_of m).threads) c.machine.ensures)) in
    sym (one_fails (λ u. is_ended u.status) ts n t.0 t.1 (ap (passes (λ u. is_ended u.status)) (sym t.1) ∙ sym c.has_ended.ensures ∙ c.if-not-has_ended.true))

pub loop-number-preserved : goal.loop-number-preserved
loop-number-preserved c =
    let ts = (state_of c.args.core.now.machine).threads in
    let n = c.loop-number.number in
    let t = at_place ts n (omega (arith, ap (λ (m : Cached). length (state_of m).threads) c.machine.ensures)) in
    one_more_passes (λ u. is_ended u.status) ts n t.0 t.1 c.loop-number.invariant (ap (passes (λ u. is_ended u.status)) (sym t.1) ∙ sym c.has_ended.ensures ∙ c.if-not-has_ended.false)
