use Rattle.std.proofs.Common.{◌≡◌, ◌≤◌, ◌*◌, ℕ, List, length}
use Rattle.std.specs.Prelude.{count_by, not}
use Rattle.memory_laws.specs.Apart.{over}
use Rattle.page_store.specs.Kept.{Means}
use Rattle.paged_steps.specs.Knowing.{Knows}
use Rattle.paged_steps.specs.Pages.{HasFrames}
use Rattle.paged_steps.proofs.finding.find.Given as goal

-- who is known to be held is
abbrev pub invariant-loop-no : goal.invariant-loop-no
invariant-loop-no g l =
    let store = g.K.Store in
    record {
      known : (m : List ℕ) → Means l.initial.paged (store.bytes_held l.initial.store) m → Knows (over l.tables m) l.initial.order → Knows (over l.tables m) l.order;
      memory : (m : List ℕ) → Means l.initial.paged (store.bytes_held l.initial.store) m → Means l.paged (store.bytes_held l.store) m;
      watched : length l.tables.memory ≤ 4096 * length l.order.watched.items;
      many : length l.order.held.items ≡ length l.initial.order.held.items;
      last : length l.order.last.items ≡ length l.initial.order.last.items;
      room : l.quantum.most ≡ l.initial.quantum.most;
      frames : HasFrames l.tables l.paged (store.frames l.store);
      faultless : store.faults l.store ≡ store.faults l.initial.store;
    }

abbrev pub decreases-loop-no : goal.decreases-loop-no
decreases-loop-no g l = count_by not l.order.held.items
