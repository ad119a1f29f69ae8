use Rattle.std.proofs.Common.{◌≡◌, ◌+◌, ◌≤◌, ℕ, List, [], ◌∷◌, ◌++◌, Contains, sym, ap, ◌∙◌, subst, inl, inr, arith}
use Rattle.std.proofs.lemmas.Option.{slice_get_within}
use Rattle.flat_machine.specs.rv32_exec.specs.declared.statuses.Status.TheVariants.{Ready}
use Rattle.flat_rules.specs.flat_state.specs.declared.records.FlatThread.{FlatThread}
use Rattle.flat_rules.specs.flat_state.specs.State.{FlatState}
use Rattle.phys_groups.specs.Memory.{HasFrame}
use Rattle.quantum.specs.page_views.specs.Views.{View}
use Rattle.quantum.specs.LocalRun.{status_by, touched_views}
use Rattle.paged_steps.specs.memory_laws.specs.Apart.{over}
use Rattle.run_journal.specs.declared.entries.Entry.TheVariants.{Ran}
use Rattle.paged_steps.specs.Aheads.{IsAheadOf}
use Rattle.paged_steps.specs.Knowing.{Knows}
use Rattle.paged_steps.proofs.Knowing.{knows_more, knows_none, knows_still}
use Rattle.paged_steps.proofs.Taking.{could_run, in_views, over_formed, row_frame}
use Rattle.paged_run.specs.Runs.{trapped_count, Extends}
use Rattle.paged_run.proofs.Trapped.{one_more}
use Rattle.paged_run.proofs.Fitting.{took}
use Rattle.paged_run.proofs.turns.take.Goals as goal

pub commit-requires-clause-there : goal.commit-requires-clause-there
commit-requires-clause-there g c =
    let goes = c.requires.goes in
    slice_get_within c.args.tables.now.threads c.args.no.0 goes.thread goes.there

pub commit-requires-clause-ready : goal.commit-requires-clause-ready
commit-requires-clause-ready g c = λ t here.
    let goes = c.requires.goes in
    let there = goes.there in
    let same : goes.thread ≡ t = (cc) in
    subst (λ (x : FlatThread). x.status ≡ Ready) same goes.ready

pub commit-requires-clause-ahead : goal.commit-requires-clause-ahead
commit-requires-clause-ahead g c = λ t here.
    let goes = c.requires.goes in
    let there = goes.there in
    let same : goes.thread ≡ t = (cc) in
    subst (λ (x : FlatThread). IsAheadOf c.args.tables.now x c.args.quantum.now) same goes.ahead

pub returns-clause-goes : goal.returns-clause-goes
returns-clause-goes g c = λ m means copies.
    let goes = c.requires.goes in
    let old = c.args.tables.now in
    let q = c.args.quantum.now in
    let did = c.in_ok-steps.ensures.state m means copies goes.thread goes.there in
    let counts = c.in_ok-steps.ensures.steps in
    let j = c.args.journal.now.entries in
    let written : c.push.new.self.entries ≡ j ++ Ran c.args.no q.steps 0 ∷ [] = c.in_ok-push.ensures.ok ∙ ap (λ (n : ℕ). j ++ Ran c.args.no n 0 ∷ []) counts in
    let went = took (over old m) (over c.commit.new.tables did.0) c.args.no goes.thread q j c.push.new.self.entries
    (over_formed old c.args.paged.now (g.K.Store.frames c.args.store.now) m c.holds.ensures c.requires.frames means.size) goes.there
    (could_run old m goes.thread q goes.ready goes.ahead copies) c.in_ok-steps.ensures.local_run goes.does did.2 written in
    let within : (v : View) → Contains (touched_views q.views) v → HasFrame m v.frame = λ v there.
    let low = row_frame old goes.thread.space c.args.paged.now (g.K.Store.frames c.args.store.now) v c.holds.ensures c.requires.frames (goes.ahead.rows v (in_views q.views v there)) in
    omega (arith, low, means.size) in
    let was = c.args.order.now in
    let now = c.pass.new.self in
    let knows : Knows (over old m) was → Knows (over c.commit.new.tables did.0) now = elim c.pass.ensures.known [
      | inl kept ↦ λ known. knows_more (over c.commit.new.tables did.0) was now (inl kept.0)
          (subst (λ (s : FlatState). Knows s was) (sym did.2) (knows_still (over old m) c.args.no.0 goes.thread q was goes.there goes.ready c.requires.apart kept.1 within c.in_ok-steps.ensures.whole_pages copies known))
      | inr nobody ↦ λ known. knows_none (over c.commit.new.tables did.0) now nobody
    ] in
    (did.0, did.1, subst (λ (n : ℕ). Extends (over old m) j (over c.commit.new.tables did.0) c.push.new.self.entries n) (sym counts) went, knows)

pub returns-clause-calls : goal.returns-clause-calls
returns-clause-calls g c =
    let goes = c.requires.goes in
    let old = c.args.tables.now in
    let q = c.args.quantum.now in
    let threads = c.in_ok-steps.ensures.threads goes.thread goes.there in
    subst (λ (ts : List FlatThread). trapped_count (record old { threads = ts }) ≤ trapped_count old + 1) (sym threads)
    (one_more old.threads c.args.no.0 goes.thread (record goes.thread { context = q.context; status = status_by q.paused }) goes.there)
