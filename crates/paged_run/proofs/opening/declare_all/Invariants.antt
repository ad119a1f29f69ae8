use Rattle.std.proofs.Common.{◌≡◌, ℕ, List, Option, drop}
use Rattle.std.specs.Prelude.{IsSome}
use Rattle.flat_rules.specs.flat_state.specs.Events.{AllFit}
use Rattle.paged_steps.specs.Pages.{HasFrames}
use Rattle.paged_run.specs.declared.pager.Pager.{Pager}
use Rattle.paged_run.specs.Openings.{AddsAll}
use Rattle.paged_run.proofs.opening.declare_all.Given as goal

abbrev pub invariant-loop-decl : goal.invariant-loop-decl
invariant-loop-decl g l =
    let store = g.K.Store in
    record {
      fit : AllFit l.pager.tables (drop l.decl-index l.decls);
      machine : IsSome l.pager.tables.machine;
      frames : HasFrames l.pager.tables l.pager.paged (store.frames l.store);
      so_far : (end : Pager) (told : Option (List ℕ)) → AddsAll (drop l.decl-index l.decls) l.pager (store.bytes_held l.store) end told → AddsAll l.decls l.fn.pager (store.bytes_held l.fn.store) end told;
      faultless : store.faults l.store ≡ store.faults l.fn.store;
    }
