use Rattle.std.proofs.Common.{◌≡◌, ℕ, Some, slice_get, sym, subst}
use Rattle.flat_state.specs.WellFormed.{IsThread}
use Rattle.board_core.specs.shown_state.specs.Shown.{flat_thread}
use Rattle.board_core.specs.cached_machine.specs.Cached.{state_of}
use Rattle.board_heal.proofs.checks.check_heal.Goals as goal

pub check_receivers-requires : goal.check_receivers-requires
check_receivers-requires c =
    let s = state_of c.machine-machine.result.now in
    let t = flat_thread c.in-Some.thread.now in
    let here : slice_get s.threads c.args.no.0 ≡ Some t = sym c.in-Some.ensures in
    let is = c.holds.ensures.threads.each c.args.no.0 t here in
    subst (λ (n : ℕ). IsThread s.spaces n t) (sym is.number) is
