use Rattle.std.proofs.Common.{◌≡◌}
use Rattle.paged_run.specs.Pagers.{left, Grew, IsReady}
use Rattle.paged_run.proofs.pager.Pager.run_on.Given as goal

abbrev pub invariant-loop-settled : goal.invariant-loop-settled
invariant-loop-settled g l =
    let store = g.K.Store in
    record {
      ready : IsReady l.self (store.frames l.store) l.limit;
      grew : Grew l.fn.self (store.bytes_held l.fn.store) l.self (store.bytes_held l.store);
      faultless : store.faults l.store ≡ store.faults l.fn.store;
    }

abbrev pub decreases-loop-settled : goal.decreases-loop-settled
decreases-loop-settled g l = left l.self l.limit
