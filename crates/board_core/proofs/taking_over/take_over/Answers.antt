-- What the views, the context and the pause leave is what the steps make of the machine.
use Rattle.std.proofs.Common.{◌≡◌, ℕ, ◌%◌, List, Contains, refl, ap, sym, ◌∙◌, subst}
use Rattle.std.specs.Prelude.{slice_set}
use Rattle.std.proofs.lemmas.Option.{slice_get_within}
use Rattle.cache_ident.specs.declared.names.Frame.{Frame}
use Rattle.phys_groups.specs.Memory.{page_at}
use Rattle.rv32_exec.specs.declared.contexts.Context.{Context}
use Rattle.flat_state.specs.declared.records.FlatThread.{FlatThread}
use Rattle.flat_state.specs.State.{FlatState}
use Rattle.board_ops.specs.page_views.specs.Views.{View, AreCopies}
use Rattle.cached_machine.specs.quantum.specs.Ahead.{Ahead}
use Rattle.cached_machine.specs.quantum.specs.LocalRun.{committed, status_by, touched_views, CouldRun}
use Rattle.cached_machine.specs.shown_state.specs.Shown.{flat_thread}
use Rattle.cached_machine.specs.Cached.{state_of, Cached}
use Rattle.board_core.specs.Growth.{AreHeld, HoldAlike}
use Rattle.board_core.specs.Stamps.{AreStamped}
use Rattle.cached_machine.specs.quantum.proofs.Touched.{context_aligned}
use Rattle.board_core.proofs.CommittedLaws.{here_then, taken_over, views_in_memory}
use Rattle.board_core.proofs.OpeningLaws.{memory_shown}
use Rattle.board_core.proofs.taking_over.take_over.Goals as goal

pub take_views-requires-clause-frames : goal.take_views-requires-clause-frames
take_views-requires-clause-frames c = λ v within.
    let t = flat_thread c.thread_at.result.now in
    views_in_memory c.args.machine.now t c.args.quantum.now c.holds.ensures (c.requires.could t c.thread_at.ensures.thread) v
    (subst (λ (vs : List View). Contains (touched_views vs) v) c.views.ensures.views within)

-- each touched view's frame holds what was copied of it
found : (m : Cached) (t : FlatThread) (a : Ahead) → CouldRun (state_of m) t a → AreCopies m.memory (touched_views a.views)
found m t a could v there = ap (λ (x : List ℕ). page_at x v.frame) (sym (memory_shown m.machine m.memory m.held.contents)) ∙ (could.views v there).holds

pub take_views-requires-clause-found : goal.take_views-requires-clause-found
take_views-requires-clause-found c =
    let t = flat_thread c.thread_at.result.now in
    subst (λ (vs : List View). AreCopies c.args.machine.now.memory (touched_views vs)) (sym c.views.ensures.views)
    (found c.args.machine.now t c.args.quantum.now (c.requires.could t c.thread_at.ensures.thread))

pub take_views-requires-clause-alike : goal.take_views-requires-clause-alike
take_views-requires-clause-alike c =
    let t = flat_thread c.thread_at.result.now in
    let are = found c.args.machine.now t c.args.quantum.now (c.requires.could t c.thread_at.ensures.thread) in
    subst (λ (vs : List View). HoldAlike (touched_views vs)) (sym c.views.ensures.views)
    (λ u v u_there v_there same. c.views.ensures.one_contents u v u_there v_there same (λ w there of. sym (are w there) ∙ ap (λ (f : Frame). page_at c.args.machine.now.memory f) of ∙ are v v_there))

pub put_near-requires-clause-there : goal.put_near-requires-clause-there
put_near-requires-clause-there c =
    let t = flat_thread c.thread_at.result.now in
    let a = c.args.quantum.now in
    let u = state_of c.take_views.new.machine in
    slice_get_within u.threads c.args.no.0 t
    (here_then (state_of c.args.machine.now) u u c.args.no.0 t a c.space_of-space.result c.views.result.now a.context (status_by a.paused) c.space_of-space.ensures c.views.ensures.views refl refl c.take_views.ensures.state c.thread_at.ensures.thread)

pub put_near-requires-clause-aligned : goal.put_near-requires-clause-aligned
put_near-requires-clause-aligned c =
    let t = flat_thread c.thread_at.result.now in
    subst (λ (x : Context). x.pc % 4 ≡ 0) (sym c.context.ensures)
    (context_aligned (state_of c.args.machine.now) c.args.no.0 t c.args.quantum.now c.holds.ensures c.thread_at.ensures.thread (c.requires.could t c.thread_at.ensures.thread) c.requires.local_run)

put_state : (c : goal.After-put_near) → state_of c.put_near.new.self ≡ record (state_of c.take_views.new.machine) { threads = slice_set (state_of c.take_views.new.machine).threads c.args.no.0 (record (flat_thread c.thread_at.result.now) { context = c.context.result.now; status = c.status_by.result }) }
put_state c =
    let t = flat_thread c.thread_at.result.now in
    let a = c.args.quantum.now in
    let u = state_of c.take_views.new.machine in
    c.put_near.ensures.state t
    (here_then (state_of c.args.machine.now) u u c.args.no.0 t a c.space_of-space.result c.views.result.now a.context (status_by a.paused) c.space_of-space.ensures c.views.ensures.views refl refl c.take_views.ensures.state c.thread_at.ensures.thread)

pub returns-clause-state : goal.returns-clause-state
returns-clause-state c = λ found here.
    let t = flat_thread c.thread_at.result.now in
    let a = c.args.quantum.now in
    let s = state_of c.args.machine.now in
    let same : t ≡ found = let there = c.thread_at.ensures.thread in cc in
    subst (λ (x : FlatThread). state_of c.put_near.new.self ≡ committed s c.args.no.0 x a) same
    (taken_over s (state_of c.take_views.new.machine) (state_of c.put_near.new.self) c.args.no.0 t a c.space_of-space.result c.views.result.now c.context.result.now c.status_by.result c.space_of-space.ensures c.views.ensures.views c.context.ensures
    (c.status_by.ensures ∙ ap status_by c.paused.ensures) c.take_views.ensures.state c.holds.ensures c.thread_at.ensures.thread (c.requires.could t c.thread_at.ensures.thread) c.requires.local_run c.views.ensures.one_a_page (put_state c))

pub returns-clause-stamps : goal.returns-clause-stamps
returns-clause-stamps c =
    let mid = c.take_views.new.machine in
    let new = c.put_near.new.self in
    let same : new.memory ≡ mid.memory = sym (memory_shown new.machine new.memory new.held.contents) ∙ ap (λ (x : FlatState). x.memory) (put_state c) ∙ memory_shown mid.machine mid.memory mid.held.contents in
    subst (λ (m : List ℕ). AreStamped c.args.at c.args.machine.now.memory c.args.stamps.now.items m c.take_views.new.stamps.items) (sym same) c.take_views.ensures.stamps

pub returns-clause-held : goal.returns-clause-held
returns-clause-held c =
    let mid = c.take_views.new.machine in
    let new = c.put_near.new.self in
    let same : new.memory ≡ mid.memory = sym (memory_shown new.machine new.memory new.held.contents) ∙ ap (λ (s : FlatState). s.memory) (put_state c) ∙ memory_shown mid.machine mid.memory mid.held.contents in
    subst (λ (vs : List View). AreHeld new.memory (touched_views vs)) c.views.ensures.views (subst (λ (m : List ℕ). AreHeld m (touched_views c.views.result.now)) (sym same) c.take_views.ensures.held)
