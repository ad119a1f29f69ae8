use Rattle.std.proofs.Common.{◌≡◌, Bool, true, false, not, ◌&&◌, List, map, sym, ap, ap₂, subst₂, ◌∙◌}
use Rattle.std.specs.Option.{is_some}
use Rattle.cache_ident.specs.declared.names.ThreadNo.{ThreadNo}
use Rattle.cache_ident.specs.declared.names.Vpn.{Vpn}
use Rattle.flat_state.specs.State.{FlatState, is_ready}
use Rattle.flat_state.specs.Signals.{HasRoom, full_among, full_receiver, is_runnable, next_signal, receivers_for}
use Rattle.flat_state.proofs.FormedEvents.{runnable_room}
use Rattle.flat_events.proofs.RunLaws.{room_after, signal_facts}
use Rattle.flat_events.proofs.steps.step_at.Goals as goal

pub deliver-requires-clause-signal : goal.deliver-requires-clause-signal
deliver-requires-clause-signal g c = signal_facts (g.T.Records.state c.args.tables.now) (g.T.Records.shown c.thread_at-thread.result.now) c.next_signal-signal.result c.next_signal-signal.ensures

pub deliver-requires-clause-room : goal.deliver-requires-clause-room
deliver-requires-clause-room g c =
    let s = g.T.Records.state c.args.tables.now in
    let t = g.T.Records.shown c.thread_at-thread.result.now in
    let here = c.thread_at-thread.ensures.thread in
    let ready : is_ready t.status ≡ true = sym c.is_ready.ensures ∙ c.if-not-is_ready.false in
    let are : c.receivers_for-receivers.result.items ≡ receivers_for s (next_signal s t) = c.receivers_for-receivers.ensures ∙ ap (receivers_for s) c.next_signal-signal.ensures in
    let whole : c.full_among.result ≡ full_receiver s t = c.full_among.ensures ∙ ap (λ (rs : List (ThreadNo × Vpn)). full_among s.threads (map (λ r. r.0) rs)) (c.deref.ensures.0 ∙ are) in
    let none_full : is_some (full_receiver s t) ≡ false = ap is_some (sym whole) ∙ sym c.is_some.ensures ∙ c.if-is_some.false in
    let runs : is_runnable s t ≡ true = ap₂ (λ (a b : Bool). a && not b) ready none_full in
    subst₂ HasRoom (sym (ap (λ (u : FlatState). u.threads) (c.take_step-stepped.ensures.state t here))) (sym (c.deref-2.ensures.0 ∙ are)) (room_after s c.args.no.0 t (receivers_for s (next_signal s t)) here ready (runnable_room s t c.holds.ensures runs))
