use Rattle.std.proofs.Common.{◌≡◌, ◌%◌, List, length, map, Contains, Some, slice_get, ap, ap₂, sym, ◌∙◌, subst}
use Rattle.std.specs.Prelude.{slice_set}
use Rattle.rv32_exec.specs.declared.contexts.Context.{Context}
use Rattle.rv32_exec.specs.declared.statuses.Status.{Status}
use Rattle.flat_state.specs.declared.records.FlatThread.{FlatThread}
use Rattle.flat_state.specs.State.{FlatState}
use Rattle.memory_laws.specs.Apart.{over}
use Rattle.page_store.specs.Kept.{Means}
use Rattle.quantum.specs.page_views.specs.Views.{View, AreCopies}
use Rattle.quantum.specs.LocalRun.{committed, status_by, touched_views, with_views, HaveOneContents}
use Rattle.paged_steps.specs.Marks.{marks_by}
use Rattle.paged_steps.proofs.Taking.{committed_so, could_run, over_formed}
use Rattle.paged_steps.proofs.happening.commit.Goals as goal

pub take_views-requires-clause-rows : goal.take_views-requires-clause-rows
take_views-requires-clause-rows g c = λ v there.
    (c.requires.ahead c.thread_at.result.now c.thread_at.ensures.thread).rows v (subst (λ (vs : List View). Contains vs v) c.views.ensures.views there)

pub take_views-requires-clause-contents : goal.take_views-requires-clause-contents
take_views-requires-clause-contents g c = subst HaveOneContents (sym c.views.ensures.views) c.views.ensures.one_contents

pub put-requires-clause-there : goal.put-requires-clause-there
put-requires-clause-there g c = rw c.in_ok-take_views.ensures.tables c.requires.there

pub put-requires-clause-aligned : goal.put-requires-clause-aligned
put-requires-clause-aligned g c =
    subst (λ (x : Context). x.pc % 4 ≡ 0) (sym c.context.ensures) (c.requires.ahead c.thread_at.result.now c.thread_at.ensures.thread).aligned

pub returns-clause-state : goal.returns-clause-state
returns-clause-state g c = λ m means copies t here.
    let old = c.args.tables.now in
    let a = c.args.quantum.now in
    let u = c.thread_at.result.now in
    let at = c.thread_at.ensures.thread in
    let mid = c.take_views.new.tables in
    let same : u ≡ t = (cc) in
    let did = c.in_ok-take_views.ensures in
    let views : c.views.result.now ≡ a.views = c.views.ensures.views in
    let after = with_views m (touched_views a.views) in
    let meant : Means c.take_views.new.paged (g.K.Store.bytes_held c.take_views.new.store) after =
    subst (λ (vs : List View). Means c.take_views.new.paged (g.K.Store.bytes_held c.take_views.new.store) (with_views m (touched_views vs))) views (did.memory m means (subst (AreCopies m) (sym views) copies)) in
    let marked_so : mid ≡ record old { rows = map (marks_by u.space a.views) old.rows } = did.tables ∙ ap (λ (vs : List View). record old { rows = map (marks_by u.space vs) old.rows }) views in
    let there : slice_get mid.threads c.args.no.0 ≡ Some u = ap (λ (s : FlatState). slice_get s.threads c.args.no.0) did.tables ∙ at in
    let so = committed_so old mid c.put.new.self m c.args.no.0 u a c.context.result.now c.status_by.result marked_so (c.put.ensures.state u there) c.context.ensures (c.status_by.ensures ∙ ap status_by c.paused.ensures)
    (over_formed old c.args.paged.now (g.K.Store.frames c.args.store.now) m c.holds.ensures c.requires.frames means.size) at (could_run old m u a (c.requires.ready u at) (c.requires.ahead u at) copies) c.steps-steps.ensures.local_run c.views.ensures.one_a_page in
    (after, meant, subst (λ (x : FlatThread). over c.put.new.self after ≡ committed (over old m) c.args.no.0 x a) same so)

pub returns-clause-frames : goal.returns-clause-frames
returns-clause-frames g c =
    let u = c.thread_at.result.now in
    let did = c.in_ok-take_views.ensures in
    let there : slice_get c.take_views.new.tables.threads c.args.no.0 ≡ Some u = ap (λ (s : FlatState). slice_get s.threads c.args.no.0) did.tables ∙ c.thread_at.ensures.thread in
    record { size = ap (λ (s : FlatState). length s.memory) (c.put.ensures.state u there) ∙ did.frames.size; same = did.frames.same }

pub returns-clause-threads : goal.returns-clause-threads
returns-clause-threads g c = λ t here.
    let old = c.args.tables.now in
    let a = c.args.quantum.now in
    let u = c.thread_at.result.now in
    let at = c.thread_at.ensures.thread in
    let same : u ≡ t = (cc) in
    let did = c.in_ok-take_views.ensures in
    let n = c.args.no.0 in
    let there : slice_get c.take_views.new.tables.threads n ≡ Some u = ap (λ (s : FlatState). slice_get s.threads n) did.tables ∙ at in
    ap (λ (s : FlatState). s.threads) (c.put.ensures.state u there)
    ∙ ap (λ (s : FlatState). slice_set s.threads n (record u { context = c.context.result.now; status = c.status_by.result })) did.tables
    ∙ ap₂ (λ (d : Context) (e : Status). slice_set old.threads n (record u { context = d; status = e })) c.context.ensures (c.status_by.ensures ∙ ap status_by c.paused.ensures)
    ∙ ap (λ (x : FlatThread). slice_set old.threads n (record x { context = a.context; status = status_by a.paused })) same
