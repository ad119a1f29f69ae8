use Rattle.std.proofs.Common.{◌≡◌, None, Some, ap, sym, subst, ◌∙◌, slice_get}
use Rattle.flat_state.specs.Signals.{is_runnable}
use Rattle.flat_rules.proofs.Known.{thread_is_of}
use Rattle.flat_rules.specs.Readings.{IsThreadOf}
use Rattle.board_checks.specs.shown_state.specs.Shown.{flat_thread}
use Rattle.board_core.specs.cached_machine.specs.Cached.{state_of, Cached}
use Rattle.board_threads.specs.Tests.{passes}
use Rattle.board_threads.proofs.known.is_runnable.Goals as goal

pub can_step-requires : goal.can_step-requires
can_step-requires c =
    let b = c.args.core.now in
    let t = flat_thread c.in-Some.thread.now in
    let there : Some t ≡ slice_get (state_of b.machine).threads c.args.no.0 = subst (λ (m : Cached). Some t ≡ slice_get (state_of m).threads c.args.no.0) c.machine.ensures c.in-Some.ensures in
    subst (λ (m : Cached). IsThreadOf (state_of m) t) (sym c.machine-in-Some.ensures) (thread_is_of (state_of b.machine) c.known.ensures.formed c.args.no.0 t (sym there))

pub returns-in-Some : goal.returns-in-Some
returns-in-Some c =
    let b = c.args.core.now in
    let t = flat_thread c.in-Some.thread.now in
    let there : Some t ≡ slice_get (state_of b.machine).threads c.args.no.0 = subst (λ (m : Cached). Some t ≡ slice_get (state_of m).threads c.args.no.0) c.machine.ensures c.in-Some.ensures in
    c.can_step.ensures ∙ ap (λ (m : Cached). is_runnable (state_of m) t) c.machine-in-Some.ensures ∙ ap (passes (is_runnable (state_of b.machine))) there

pub returns-in-None : goal.returns-in-None
returns-in-None c =
    let b = c.args.core.now in
    ap (passes (is_runnable (state_of b.machine))) (subst (λ (m : Cached). None ≡ slice_get (state_of m).threads c.args.no.0) c.machine.ensures c.in-None.ensures)
