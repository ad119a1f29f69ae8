-- The store is the next step, where the run pauses before one that signals.
use Rattle.std.proofs.Common.{None, sym, ap, ◌∙◌}
use Rattle.std.specs.Prelude.{if◌then◌else◌}
use Rattle.flat_laws.specs.flat_state.specs.Signals.{next_action}
use Rattle.page_views.specs.Views.{pages_of_views}
use Rattle.quantum.specs.Ahead.{signal_store, store_by}
use Rattle.quantum.proofs.Signalling.{effect_if}
use Rattle.quantum.proofs.ahead.Quantum.signal_store.Goals as goal

pub returns-then-is_signal-clause-store : goal.returns-then-is_signal-clause-store
returns-then-is_signal-clause-store c =
    let q = c.self.inside in
    c.next_store.ensures
    ∙ ap (λ b. if b then store_by q.context q.views.views (next_action q.context (pages_of_views q.views.views)) else None) (sym (sym c.is_signal.ensures ∙ c.if-is_signal.true))
    ∙ ap signal_store c.self.view_is

pub returns-then-is_signal-clause-effect : goal.returns-then-is_signal-clause-effect
returns-then-is_signal-clause-effect c = effect_if c.args.self.now c.next_store.result (returns-then-is_signal-clause-store c)

pub returns-else-is_signal-clause-store : goal.returns-else-is_signal-clause-store
returns-else-is_signal-clause-store c =
    let q = c.self.inside in
    ap (λ b. if b then store_by q.context q.views.views (next_action q.context (pages_of_views q.views.views)) else None) (sym (sym c.is_signal.ensures ∙ c.if-is_signal.false))
    ∙ ap signal_store c.self.view_is
