use Rattle.std.proofs.Common.{◌≤◌, sym, subst, ◌∙◌, ap}
use Rattle.paged_run.specs.Openings.{frames_of}
use Rattle.paged_run.proofs.Opened.{bare_fit, bare_has, bare_some, machine_fits, opened_entries, opened_memory, whole_tail}
use Rattle.paged_run.proofs.opening.opened.Goals as goal

pub new_pager-requires-clause-fits : goal.new_pager-requires-clause-fits
new_pager-requires-clause-fits g c = machine_fits c.args.decls.now _ c.first_machine-machine.result c.first_machine-machine.ensures c.requires.fit

pub declare_all-requires-clause-fit : goal.declare_all-requires-clause-fit
declare_all-requires-clause-fit g c = bare_fit c.first_machine-machine.result c.args.frames c.in_ok-pager.pager c.in_ok-pager.ensures c.args.decls.now _ (whole_tail c.args.decls.now c.first_machine-machine.result c.first_machine-machine.ensures) c.requires.fit

pub declare_all-requires-clause-machine : goal.declare_all-requires-clause-machine
declare_all-requires-clause-machine g c = bare_some c.first_machine-machine.result c.args.frames c.in_ok-pager.pager c.in_ok-pager.ensures

pub declare_all-requires-clause-frames : goal.declare_all-requires-clause-frames
declare_all-requires-clause-frames g c =
    bare_has c.first_machine-machine.result c.args.frames c.in_ok-pager.pager c.in_ok-pager.ensures (g.K.Store.frames c.args.store.now) (c.requires.store ∙ ap frames_of c.first_machine-machine.ensures)

pub returns-clause-opened : goal.returns-clause-opened
returns-clause-opened g c =
    let bare = c.in_ok-pager.ensures in
    let did = c.in_ok-declare_all.ensures in
    record {
      entries = opened_entries c.args.decls.now _ c.first_machine-machine.result _ _ _ (whole_tail c.args.decls.now c.first_machine-machine.result c.first_machine-machine.ensures) bare.entries did.adds.entries c.in_ok-push.ensures.ok;
      nobody = ap (λ o. o.held.items) did.adds.order ∙ bare.nobody;
      steps = did.adds.steps ∙ bare.steps;
      room = subst (λ a. 2 ≤ a.most) (sym did.adds.quantum) (bare.room c.requires.least);
      frames = did.frames;
    }

pub returns-clause-memory : goal.returns-clause-memory
returns-clause-memory g c = λ bytes told.
    let store = g.K.Store in
    opened_memory c.first_machine-machine.result c.args.frames c.in_ok-pager.pager c.in_ok-pager.ensures c.args.decls.now _ c.declare_all.new.pager (store.bytes_held c.args.store.now) (store.bytes_held c.declare_all.new.store) bytes
    (whole_tail c.args.decls.now c.first_machine-machine.result c.first_machine-machine.ensures) c.in_ok-declare_all.ensures.adds told (c.requires.zeros bytes told)
