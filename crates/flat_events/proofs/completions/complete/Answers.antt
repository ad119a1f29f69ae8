use Rattle.std.proofs.Common.{◌≡◌, ℕ, Some, slice_get, sym, ap, ◌∙◌, refl, arith}
use Rattle.std.proofs.lemmas.Option.{same_Some, slice_get_past}
use Rattle.flat_state.specs.State.{FlatState, with_thread}
use Rattle.flat_state.specs.Call.{after_completion, answered, is_completable}
use Rattle.flat_events.specs.declared.asked.Asked.TheVariants.{Nothing, Refused, Declares, Unmaps}
use Rattle.flat_events.proofs.CallEnds.{left}
use Rattle.flat_events.proofs.CallParts.{still_there, thread_stays}
use Rattle.flat_events.proofs.completions.complete.Goals as goal

pub returns-then-thread_count-no-clause-ok : goal.returns-then-thread_count-no-clause-ok
unfolding after_completion
returns-then-thread_count-no-clause-ok g c =
    let s = g.T.Records.state c.args.tables.now in
    rw (slice_get_past s.threads c.args.no.0 (omega (arith, c.if-thread_count-no.true, c.thread_count.ensures))) refl

pub returns-then-not-is_completable-clause-ok : goal.returns-then-not-is_completable-clause-ok
unfolding after_completion
returns-then-not-is_completable-clause-ok g c = rw (c.thread_at.ensures.thread, ← c.if-not-is_completable.ensures) refl

pub asks-requires-clause-completable : goal.asks-requires-clause-completable
asks-requires-clause-completable g c = λ t here. sym (c.if-not-is_completable.ensures ∙ ap is_completable (same_Some _ _ (sym c.thread_at.ensures.thread ∙ here)))

pub carry_out-requires-clause-completable : goal.carry_out-requires-clause-completable
carry_out-requires-clause-completable g c = λ t here. sym (c.if-not-is_completable.ensures ∙ ap is_completable (same_Some _ _ (sym c.thread_at.ensures.thread ∙ here)))

pub answer-requires-in-Declares : goal.answer-requires-in-Declares
answer-requires-in-Declares g c =
    let s = g.T.Records.state c.args.tables.now in
    rw c.in_ok-declare-in-Declares.ensures.ok (still_there s c.in-Declares.decl c.args.no.0 (omega (arith, c.if-thread_count-no.false, c.thread_count.ensures)))

pub returns-in_ok-carry_out-in-Nothing-clause-ok : goal.returns-in_ok-carry_out-in-Nothing-clause-ok
returns-in_ok-carry_out-in-Nothing-clause-ok g c =
    let s = g.T.Records.state c.args.tables.now in
    let t = g.T.Records.shown c.thread_at.result.now in
    let here : slice_get s.threads c.args.no.0 ≡ Some t = c.thread_at.ensures.thread in
    c.in_ok-carry_out-in-Nothing.ensures.ok t here ∙ left s c.args.no.0 t Nothing (c.in-Nothing.ensures.comes_of_it t here)

pub returns-in-Refused-clause-ok : goal.returns-in-Refused-clause-ok
returns-in-Refused-clause-ok g c =
    let s = g.T.Records.state c.args.tables.now in
    let n = c.args.no.0 in
    let t = g.T.Records.shown c.thread_at.result.now in
    let here : slice_get s.threads n ≡ Some t = c.thread_at.ensures.thread in
    c.answer.ensures.state t here ∙ ap (λ (value : ℕ). with_thread s n (answered t value)) c.refusal.ensures ∙ left s n t (Refused c.in-Refused.rule) (c.in-Refused.ensures.comes_of_it t here)

pub returns-in_ok-declare-in-Declares-clause-ok : goal.returns-in_ok-declare-in-Declares-clause-ok
returns-in_ok-declare-in-Declares-clause-ok g c =
    let s = g.T.Records.state c.args.tables.now in
    let n = c.args.no.0 in
    let t = g.T.Records.shown c.thread_at.result.now in
    let here : slice_get s.threads n ≡ Some t = c.thread_at.ensures.thread in
    let ok = c.in_ok-declare-in-Declares.ensures.ok in
    let there : slice_get (g.T.Records.state c.declare.new.self).threads n ≡ Some t = rw ok (thread_stays s c.in-Declares.decl n t here) in
    c.answer-in-Declares.ensures.state t there
    ∙ ap (λ (u : FlatState). with_thread u n (answered t c.in-Declares.answer)) ok
    ∙ left s n t (Declares c.in-Declares.decl c.in-Declares.answer) (c.in-Declares.ensures.comes_of_it t here)

pub returns-in-Unmaps-clause-ok : goal.returns-in-Unmaps-clause-ok
returns-in-Unmaps-clause-ok g c =
    let s = g.T.Records.state c.args.tables.now in
    let n = c.args.no.0 in
    let t = g.T.Records.shown c.thread_at.result.now in
    let here : slice_get s.threads n ≡ Some t = c.thread_at.ensures.thread in
    let gone = c.remove_row.ensures.rows in
    let there : slice_get (g.T.Records.state c.remove_row.new.self).threads n ≡ Some t = rw gone here in
    c.answer-in-Unmaps.ensures.state t there
    ∙ ap (λ (u : FlatState). with_thread u n (answered t 0)) gone
    ∙ left s n t (Unmaps c.in-Unmaps.space c.in-Unmaps.vpn) (c.in-Unmaps.ensures.comes_of_it t here)
