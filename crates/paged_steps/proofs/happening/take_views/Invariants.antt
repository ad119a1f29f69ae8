use Rattle.std.proofs.Common.{◌≡◌, ℕ, List, length, map, take, Contains}
use Rattle.quantum.specs.page_views.specs.Views.{View, AreCopies}
use Rattle.page_store.specs.Kept.{Means}
use Rattle.quantum.specs.LocalRun.{touched_views, with_views}
use Rattle.paged_steps.specs.Aheads.{IsPutIf}
use Rattle.paged_steps.specs.Marks.{marks_by}
use Rattle.paged_steps.specs.Pages.{HasFrames}
use Rattle.paged_steps.proofs.happening.take_views.Given as goal

-- the views so far are taken over
abbrev pub invariant-loop-view : goal.invariant-loop-view
invariant-loop-view g l =
    let store = g.K.Store in
    record {
      tables : l.tables ≡ record l.initial.tables { rows = map (marks_by l.space (take l.view-index l.views)) l.initial.tables.rows };
      memory : (m : List ℕ) → Means l.initial.paged (store.bytes_held l.initial.store) m → AreCopies m l.views → Means l.paged (store.bytes_held l.store) (with_views m (touched_views (take l.view-index l.views)));
      put : (m : List ℕ) → Means l.initial.paged (store.bytes_held l.initial.store) m → AreCopies m l.views → (v : View) → Contains (touched_views l.views) v → IsPutIf v (with_views m (touched_views (take l.view-index l.views)));
      whole : (v : View) → Contains (touched_views (take l.view-index l.views)) v → length v.present ≡ 4096;
      frames : HasFrames l.tables l.paged (store.frames l.store);
      faultless : store.faults l.store ≡ store.faults l.initial.store;
    }
