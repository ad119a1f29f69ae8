use Rattle.std.proofs.Common.{◌+◌, ◌≤◌, Some, refl, sym, ap, ◌∙◌, subst}
use Rattle.flat_machine.specs.rv32_exec.specs.declared.statuses.Reason.TheVariants.{Fault}
use Rattle.flat_machine.specs.rv32_exec.specs.declared.statuses.Status.TheVariants as statuses
use Rattle.flat_rules.specs.flat_state.specs.Signals.{receivers_of}
use Rattle.flat_rules.specs.flat_state.specs.State.{FlatState}
use Rattle.paged_steps.specs.memory_laws.specs.Apart.{over}
use Rattle.paged_steps.specs.declared.looking.Next.{Next}
use Rattle.paged_steps.specs.Nexts.{GoesSo}
use Rattle.paged_steps.specs.Pages.{HasFrames}
use Rattle.paged_steps.proofs.Knowing.{knows_none}
use Rattle.paged_steps.proofs.Taking.{over_formed}
use Rattle.run_journal.specs.declared.entries.Entry.TheVariants.{Ran}
use Rattle.paged_run.specs.Runs.{trapped_count}
use Rattle.paged_run.proofs.Fitting.{ended_one, ended_so, sends_so, took_one}
use Rattle.paged_run.proofs.Trapped.{one_more, sent_more}
use Rattle.paged_run.proofs.turns.advance.Goals as goal

pub returns-in_ok-push-in-Ends-clause-goes : goal.returns-in_ok-push-in-Ends-clause-goes
returns-in_ok-push-in-Ends-clause-goes g c = λ m means copies.
    let arm = c.in-Ends in
    let old = c.args.tables.now in
    let q = c.args.quantum.now in
    let no = c.args.no in
    let goes = subst (λ (x : Next). GoesSo old q no.0 x) arm.is c.requires.goes in
    let t = goes.thread in
    let step = ended_so old c.end.new.tables m no.0 t q arm.kind arm.access arm.va goes.there goes.ready goes.ahead (goes.ahead.fresh goes.does.0) copies goes.does.1 (c.end.ensures t goes.there) in
    (m, means, ended_one (over old m) (over c.end.new.tables m) no c.args.journal.now.entries c.push.new.self.entries step c.in_ok-push-in-Ends.ensures.ok, λ knows. knows_none (over c.end.new.tables m) c.forget.new.self c.forget.ensures.none)

pub returns-in_ok-push-in-Ends-clause-calls : goal.returns-in_ok-push-in-Ends-clause-calls
returns-in_ok-push-in-Ends-clause-calls g c =
    let arm = c.in-Ends in
    let old = c.args.tables.now in
    let goes = c.requires.goes in
    let t = goes.thread in
    subst (λ (s : FlatState). trapped_count s ≤ trapped_count old + 1) (sym (c.end.ensures t goes.there))
    (one_more old.threads c.args.no.0 t (record t { status = statuses.Ended (Fault arm.kind arm.access arm.va) }) goes.there)

pub returns-in_ok-push-in-Ends-clause-frames : goal.returns-in_ok-push-in-Ends-clause-frames
returns-in_ok-push-in-Ends-clause-frames g c =
    let goes = c.requires.goes in
    let frames = c.requires.frames in
    subst (λ (s : FlatState). HasFrames s c.args.paged.now (g.K.Store.frames c.args.store.now)) (sym (c.end.ensures goes.thread goes.there)) (record { size = frames.size; same = frames.same })

pub returns-in_ok-push-in-Sends-clause-goes : goal.returns-in_ok-push-in-Sends-clause-goes
returns-in_ok-push-in-Sends-clause-goes g c = λ m means copies.
    let arm = c.in-Sends in
    let old = c.args.tables.now in
    let new = c.send.new.tables in
    let q = c.args.quantum.now in
    let no = c.args.no in
    let goes = subst (λ (x : Next). GoesSo old q no.0 x) arm.is c.requires.goes in
    let t = goes.thread in
    let does = goes.does in
    let fresh = goes.ahead.fresh does.0 in
    let formed = over_formed old c.args.paged.now (g.K.Store.frames c.args.store.now) m c.holds.ensures c.requires.frames means.size in
    let step = sends_so old m no.0 t q arm.what arm.signal does.2 formed goes.there goes.ready goes.ahead fresh does.1 copies does.3 in
    let did = c.in_ok-send-in-Sends.ensures.state m means t goes.there does.2 in
    (did.0, did.1, took_one (over old m) (over new did.0) no (Ran no 1 0) c.args.journal.now.entries c.push-in-Sends.new.self.entries (step ∙ ap (λ (s : FlatState). Some s) (sym did.2)) refl c.in_ok-push-in-Sends.ensures.ok, λ knows. knows_none (over new did.0) c.forget-in-Sends.new.self c.forget-in-Sends.ensures.none)

pub returns-in_ok-push-in-Sends-clause-calls : goal.returns-in_ok-push-in-Sends-clause-calls
returns-in_ok-push-in-Sends-clause-calls g c =
    let arm = c.in-Sends in
    let old = c.args.tables.now in
    let goes = c.requires.goes in
    sent_more old.threads c.args.no.0 goes.thread (record goes.thread { context = arm.what.context; status = statuses.Ready }) goes.there arm.signal.offset (receivers_of old arm.signal.frame) c.send.new.tables.threads (c.in_ok-send-in-Sends.ensures.threads goes.thread goes.there)
