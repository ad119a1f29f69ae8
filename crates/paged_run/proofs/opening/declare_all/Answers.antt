use Rattle.std.proofs.Common.{sym, subst, ◌∙◌}
use Rattle.std.specs.Prelude.{IsSome}
use Rattle.std.proofs.lemmas.List.{drop_all}
use Rattle.paged_run.proofs.Opened.{all_done, cut, first_fits, one_more, rest_fits}
use Rattle.paged_run.proofs.opening.declare_all.Goals as goal

pub declare-requires-clause-fits : goal.declare-requires-clause-fits
declare-requires-clause-fits g c =
    first_fits c.loop-decl.pager.tables _ _ _ (cut c.args.decls.now c.loop-decl.decl-index _ c.loop-decl-test.true) c.loop-decl.invariant.fit

pub loop-decl-preserved : goal.loop-decl-preserved
loop-decl-preserved g c =
    let store = g.K.Store in
    let here = cut c.args.decls.now c.loop-decl.decl-index _ c.loop-decl-test.true in
    let before = c.loop-decl.invariant in
    let did = c.in_ok-declare.ensures in
    let p = c.args.pager.now in
    let q = c.loop-decl.pager in
    let r = c.declare.new.pager in
    let h = store.bytes_held c.loop-decl.store in
    let k = store.bytes_held c.declare.new.store in
    record {
      fit = rest_fits q r h k _ _ _ here before.fit did.adds;
      machine = subst IsSome (sym did.adds.machine) before.machine;
      frames = did.frames;
      so_far = λ end told more. one_more p q r end (store.bytes_held c.args.store.now) h k told c.args.decls.now _ _ _ here did.adds before.so_far more;
      faultless = did.faultless ∙ before.faultless;
    }

pub returns-clause-adds : goal.returns-clause-adds
returns-clause-adds g c =
    let store = g.K.Store in
    all_done c.args.pager.now c.loop-decl.pager (store.bytes_held c.args.store.now) (store.bytes_held c.loop-decl.store) c.args.decls.now _ (drop_all c.loop-decl.decl-index c.args.decls.now c.loop-decl-test.false) c.loop-decl.invariant.so_far
