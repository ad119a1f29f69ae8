use Rattle.std.proofs.Common.{◌≡◌, ℕ, ◌-◌, ◌≤◌, List, length, None}
use Rattle.page_store.specs.Kept.{Means}
use Rattle.quantum.specs.Ahead.{standing}
use Rattle.flat_rules.specs.Readings.{OfThread}
use Rattle.paged_steps.specs.Pages.{HasFrames}
use Rattle.paged_steps.specs.Aheads.{IsAheadOf}
use Rattle.quantum.specs.page_views.specs.Views.{AreCopies}
use Rattle.paged_steps.proofs.Asked.{IsAskedSo}
use Rattle.paged_steps.proofs.ahead.run_ahead.Given as goal

abbrev pub invariant-loop-va : goal.invariant-loop-va
invariant-loop-va g l =
    let store = g.K.Store in
    record {
      ahead : OfThread l.tables l.fn.no.0 (λ t. IsAheadOf l.tables t l.quantum);
      asked : l.quantum.steps ≡ 0 → IsAskedSo l.quantum;
      free : standing l.quantum.paused ≡ None;
      within : l.quantum.steps ≤ l.most;
      most : l.quantum.most ≡ l.fn.quantum.most;
      few : length l.quantum.views ≤ l.quantum.most;
      memory : (m : List ℕ) → Means l.fn.paged (store.bytes_held l.fn.store) m → Means l.paged (store.bytes_held l.store) m;
      copies : (m : List ℕ) → Means l.fn.paged (store.bytes_held l.fn.store) m → AreCopies m l.quantum.views;
      frames : HasFrames l.tables l.paged (store.frames l.store);
      faultless : store.faults l.store ≡ store.faults l.fn.store;
    }

abbrev pub decreases-loop-va : goal.decreases-loop-va
decreases-loop-va g l = l.quantum.most - length l.quantum.views
