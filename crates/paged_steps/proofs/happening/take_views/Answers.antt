use Rattle.std.proofs.Common.{◌≡◌, ℕ, List, length, take, Contains, refl, ap, sym, ◌∙◌, subst, inl, inr, arith}
use Rattle.std.proofs.lemmas.List.Elements.{Contains-get_or, Contains-push_cases}
use Rattle.phys_groups.specs.Memory.{HasFrame}
use Rattle.quantum.proofs.OneStep.{contains_filter}
use Rattle.flat_state.specs.State.{FlatState}
use Rattle.page_store.specs.Kept.{Means}
use Rattle.quantum.specs.page_views.specs.Views.{View}
use Rattle.quantum.specs.LocalRun.{touched_views, with_views}
use Rattle.paged_steps.specs.Aheads.{IsPutIf}
use Rattle.paged_steps.proofs.Taking.{memory_kept, memory_more, no_marks, put_first, put_later, row_frame, rows_kept, rows_more, touched_so_far, untouched_so_far}
use Rattle.paged_steps.proofs.happening.take_views.Goals as goal
use Rattle.paged_steps.proofs.happening.take_views.Goals.{then-touched+in_ok-take_view, else-touched}

pub loop-view-init : goal.loop-view-init
loop-view-init g c = record {
  tables = no_marks c.args.tables.now;
  memory = λ m means copies. means;
  put = λ m means copies. put_first c.args.views.now m copies;
  whole = λ v there. absurd (let lt = there.1 in omega (arith, lt));
  frames = c.requires.frames;
  faultless = refl;
}

pub take_view-requires-clause-there : goal.take_view-requires-clause-there
take_view-requires-clause-there g c =
    let v = c.view-item.result in
    let within = subst (λ (x : View). Contains c.args.views.now x) (sym c.view-item.is) (Contains-get_or c.args.views.now c.loop-view.view-index v c.loop-view-test.true) in
    let low = row_frame c.args.tables.now c.args.space c.args.paged.now (g.K.Store.frames c.args.store.now) v c.holds.ensures c.requires.frames (c.requires.rows v within) in
    let was = c.requires.frames.size in
    let is = c.loop-view.invariant.frames.size in
    let same : length c.loop-view.tables.memory ≡ length c.args.tables.now.memory = ap (λ (s : FlatState). length s.memory) c.loop-view.invariant.tables in
    omega arith

pub loop-view-preserved : goal.loop-view-preserved
loop-view-preserved g c =
    let v = c.view-item.result in
    let views = c.args.views.now in
    let i = c.loop-view.view-index in
    let before = c.loop-view.invariant in
    let store = g.K.Store in
    let within = subst (λ (x : View). Contains views x) (sym c.view-item.is) (Contains-get_or views i v c.loop-view-test.true) in
    elim c.if-touched.branch [
      | then-touched+in_ok-take_view w ↦
          let touched = sym c.touched.ensures ∙ w.if-touched.true in
          let did = w.in_ok-take_view.ensures in
          let there = contains_filter (λ (u : View). u.touched) views v within touched in
          let now = λ (m : List ℕ). with_views m (touched_views (take i views)) in
          let more = λ (m : List ℕ). memory_more views i v c.loop-view-test.true c.view-item.is m touched in
          record {
            tables = w.tables-is ∙ rows_more views i v c.loop-view-test.true c.view-item.is c.args.space c.args.tables.now c.loop-view.tables before.tables w.take_view.new.tables touched did.tables;
            memory = λ m means copies. rw (w.paged-is, w.store-is) (subst (λ (n : List ℕ). Means w.take_view.new.paged (store.bytes_held w.take_view.new.store) n) (sym (more m)) (did.memory (now m) (before.memory m means copies) (before.put m means copies v there)));
            put = λ m means copies.
                let size = (before.memory m means copies).size in
                let low = row_frame c.args.tables.now c.args.space c.args.paged.now (store.frames c.args.store.now) v c.holds.ensures c.requires.frames (c.requires.rows v within) in
                let was = c.requires.frames.size in
                let is = before.frames.size in
                let same : length c.loop-view.tables.memory ≡ length c.args.tables.now.memory = ap (λ (s : FlatState). length s.memory) before.tables in
                let there_too : HasFrame (now m) v.frame = omega arith in
                subst (λ (n : List ℕ). (u : View) → Contains (touched_views views) u → IsPutIf u n) (sym (more m))
                (put_later views m (now m) v c.requires.contents copies there there_too did.whole_page (before.put m means copies));
            whole = λ u u_there. elim (Contains-push_cases (touched_views (take i views)) v u (subst (λ (xs : List View). Contains xs u) (touched_so_far views i v c.loop-view-test.true c.view-item.is touched) u_there)) [
              | inl earlier ↦ before.whole u earlier
              | inr same ↦ subst (λ (x : View). length x.present ≡ 4096) same did.whole_page
            ];
            frames = rw (w.tables-is, w.paged-is, w.store-is) did.frames;
            faultless = rw w.store-is (did.faultless ∙ before.faultless);
          }
      | else-touched w ↦
          let untouched = sym c.touched.ensures ∙ w.if-touched.false in
          let kept = λ (m : List ℕ). memory_kept views i v c.loop-view-test.true c.view-item.is m untouched in
          record {
            tables = w.tables-is ∙ rows_kept views i v c.loop-view-test.true c.view-item.is c.args.space c.args.tables.now c.loop-view.tables before.tables untouched;
            memory = λ m means copies. rw (w.paged-is, w.store-is) (subst (λ (n : List ℕ). Means c.loop-view.paged (store.bytes_held c.loop-view.store) n) (sym (kept m)) (before.memory m means copies));
            put = λ m means copies. subst (λ (n : List ℕ). (u : View) → Contains (touched_views views) u → IsPutIf u n) (sym (kept m)) (before.put m means copies);
            whole = λ u u_there. before.whole u (subst (λ (xs : List View). Contains xs u) (untouched_so_far views i v c.loop-view-test.true c.view-item.is untouched) u_there);
            frames = rw (w.tables-is, w.paged-is, w.store-is) before.frames;
            faultless = rw w.store-is before.faultless;
          }
    ]
