-- Each view that was touched is taken over, and no other.
use Rattle.std.proofs.Common.{◌≡◌, ℕ, ◌+◌, List, take, Contains, refl, ap, sym, ◌∙◌, subst, inl, arith}
use Rattle.std.proofs.lemmas.List.{take_all}
use Rattle.std.proofs.lemmas.List.Elements.{Contains-get_or}
use Rattle.phys_groups.specs.Memory.{page_at}
use Rattle.run_journal.proofs.Others.{Contains-from_filter}
use Rattle.board_ops.specs.flat_laws.proofs.Members.{contains_nothing}
use Rattle.board_ops.specs.page_views.specs.Views.{View}
use Rattle.cached_machine.specs.quantum.specs.LocalRun.{touched_views}
use Rattle.cached_machine.specs.Aside.{aside_of}
use Rattle.cached_machine.specs.Cached.{state_of, Cached}
use Rattle.board_core.specs.Growth.{with_all_views, with_view, AreInMemory, IsAsCopiedOrNow}
use Rattle.board_core.specs.Stamps.{AreStamped}
use Rattle.board_core.proofs.CommittedLaws.{one_view_more}
use Rattle.board_core.proofs.TakingLaws.{done_more, done_skipped, have_places_then, held_later, kept_stamps, stamped_again, untouched_view}
use Rattle.board_core.proofs.taking_over.take_views.Goals as goal
use Rattle.board_core.proofs.taking_over.take_views.Goals.{then-touched, else-touched}

pub take_view-requires-clause-frame : goal.take_view-requires-clause-frame
take_view-requires-clause-frame c =
    let v = c.view-item.result in
    let within = subst (λ (x : View). Contains c.args.views.now x) (sym c.view-item.is) (Contains-get_or c.args.views.now c.loop-view.view-index v c.loop-view-test.true) in
    let there = c.requires.frames v (Contains-from_filter (λ (w : View). w.touched) c.args.views.now v within (sym c.touched.ensures ∙ c.if-touched.true)) in
    let size = c.loop-view.invariant.stamped.size in
    omega arith

pub take_view-requires-clause-found : goal.take_view-requires-clause-found
take_view-requires-clause-found c =
    let v = c.view-item.result in
    let within = subst (λ (x : View). Contains c.args.views.now x) (sym c.view-item.is) (Contains-get_or c.args.views.now c.loop-view.view-index v c.loop-view-test.true) in
    c.loop-view.invariant.held v (Contains-from_filter (λ (w : View). w.touched) c.args.views.now v within (sym c.touched.ensures ∙ c.if-touched.true))

pub loop-view-init : goal.loop-view-init
loop-view-init c = record { state = refl; rest = refl; held = λ v there. inl (c.requires.found v there); done = λ v there. absurd (contains_nothing v there); stamped = kept_stamps c.args.at _ _ _ refl }

pub take_view-requires-clause-places : goal.take_view-requires-clause-places
take_view-requires-clause-places c = have_places_then _ _ _ _ _ c.loop-view.invariant.stamped c.requires.places

pub loop-view-preserved : goal.loop-view-preserved
loop-view-preserved c =
    let v = c.view-item.result in
    let more = one_view_more c.args.space (state_of c.args.machine.now) c.args.views.now c.loop-view.view-index v c.loop-view-test.true c.view-item.is in
    let within = subst (λ (x : View). Contains c.args.views.now x) (sym c.view-item.is) (Contains-get_or c.args.views.now c.loop-view.view-index v c.loop-view-test.true) in
    let size = c.loop-view.invariant.stamped.size in
    let in_memory : AreInMemory c.loop-view.machine.memory (touched_views c.args.views.now) = λ u there. let low = c.requires.frames u there in omega arith in
    elim c.if-touched.branch [
      | then-touched w ↦ record {
        state = ap state_of w.machine-is ∙ w.take_view.ensures.state ∙ ap (λ s. with_view c.args.space s v) c.loop-view.invariant.state ∙ sym more;
        rest = ap aside_of w.machine-is ∙ w.take_view.ensures.rest ∙ c.loop-view.invariant.rest;
        held = subst (λ (m : Cached). (u : View) → Contains (touched_views c.args.views.now) u → IsAsCopiedOrNow m.memory u) (sym w.machine-is)
            (held_later (touched_views c.args.views.now) v c.loop-view.machine.memory w.take_view.new.machine.memory c.requires.alike
            (Contains-from_filter (λ (u : View). u.touched) c.args.views.now v within (sym c.touched.ensures ∙ w.if-touched.true)) in_memory w.take_view.ensures.bytes c.loop-view.invariant.held);
        done = subst (λ (m : Cached). (u : View) → Contains (touched_views (take (c.loop-view.view-index + 1) c.args.views.now)) u → page_at m.memory u.frame ≡ u.present) (sym w.machine-is)
            (done_more c.args.views.now c.loop-view.view-index v c.loop-view.machine.memory w.take_view.new.machine.memory c.loop-view-test.true c.view-item.is (sym c.touched.ensures ∙ w.if-touched.true) c.requires.alike
            (Contains-from_filter (λ (u : View). u.touched) c.args.views.now v within (sym c.touched.ensures ∙ w.if-touched.true)) in_memory w.take_view.ensures.bytes c.loop-view.invariant.done);
        stamped = subst (λ (m : Cached). AreStamped c.args.at c.args.machine.now.memory c.args.stamps.now.items m.memory c.if-touched.stamps.items) (sym w.machine-is)
            (subst (λ (xs : List ℕ). AreStamped c.args.at c.args.machine.now.memory c.args.stamps.now.items w.take_view.new.machine.memory xs) (ap (λ x. x.items) (sym w.stamps-is))
            (stamped_again c.args.at _ _ _ _ _ _ c.loop-view.invariant.stamped w.take_view.ensures.stamps));
      }
      | else-touched w ↦ record {
        state = ap state_of w.machine-is ∙ c.loop-view.invariant.state ∙ sym (more ∙ untouched_view c.args.space (with_all_views c.args.space (state_of c.args.machine.now) (take c.loop-view.view-index c.args.views.now)) v (sym c.touched.ensures ∙ w.if-touched.false));
        rest = ap aside_of w.machine-is ∙ c.loop-view.invariant.rest;
        held = subst (λ (m : Cached). (u : View) → Contains (touched_views c.args.views.now) u → IsAsCopiedOrNow m.memory u) (sym w.machine-is) c.loop-view.invariant.held;
        done = subst (λ (m : Cached). (u : View) → Contains (touched_views (take (c.loop-view.view-index + 1) c.args.views.now)) u → page_at m.memory u.frame ≡ u.present) (sym w.machine-is)
            (subst (λ (vs : List View). (u : View) → Contains vs u → page_at c.loop-view.machine.memory u.frame ≡ u.present) (sym (done_skipped c.args.views.now c.loop-view.view-index v c.loop-view-test.true c.view-item.is (sym c.touched.ensures ∙ w.if-touched.false))) c.loop-view.invariant.done);
        stamped = subst (λ (m : Cached). AreStamped c.args.at c.args.machine.now.memory c.args.stamps.now.items m.memory c.if-touched.stamps.items) (sym w.machine-is)
            (subst (λ (xs : List ℕ). AreStamped c.args.at c.args.machine.now.memory c.args.stamps.now.items c.loop-view.machine.memory xs) (ap (λ x. x.items) (sym w.stamps-is)) c.loop-view.invariant.stamped);
      }
    ]

pub returns-clause-held : goal.returns-clause-held
returns-clause-held c = λ v there.
    let low = c.requires.frames v there in
    let size = c.loop-view.invariant.stamped.size in
    let all = take_all c.loop-view.view-index c.args.views.now (omega (arith, c.loop-view-test.false)) in
    (omega arith, c.loop-view.invariant.done v (subst (λ (vs : List View). Contains (touched_views vs) v) (sym all) there))
