use Rattle.std.proofs.Common.{◌≡◌, Some, sym, ap, ◌∙◌}
use Rattle.std.proofs.lemmas.Option.{same_Some}
use Rattle.flat_events.specs.declared.asked.Asked.{Asked}
use Rattle.flat_events.specs.Asked.{after_asked, asked_of}
use Rattle.flat_events.proofs.CallEnds.{asked_from, comes_of_it}
use Rattle.flat_events.proofs.asked.asks.Goals as goal

pub returns-clause-asked : goal.returns-clause-asked
returns-clause-asked g c = λ t here.
    let s = g.T.Records.state c.args.tables.now in
    let first = g.T.Records.shown c.thread_at-thread.result.now in
    let same : first ≡ t = same_Some _ _ (sym c.thread_at-thread.ensures.thread ∙ here) in
    c.asked_for.ensures.asked ∙ asked_from s c.args.no.0 t first c.context_of.result.now c.effect_of.result same c.context_of.ensures c.effect_of.ensures

pub returns-clause-comes_of_it : goal.returns-clause-comes_of_it
returns-clause-comes_of_it g c = λ t here.
    let s = g.T.Records.state c.args.tables.now in
    let n = c.args.no.0 in
    let first = g.T.Records.shown c.thread_at-thread.result.now in
    let same : first ≡ t = same_Some _ _ (sym c.thread_at-thread.ensures.thread ∙ here) in
    let asked : c.asked_for.result ≡ asked_of s t = c.asked_for.ensures.asked ∙ asked_from s n t first c.context_of.result.now c.effect_of.result same c.context_of.ensures c.effect_of.ensures in
    comes_of_it s n t here (c.requires.completable t here) ∙ ap (λ (a : Asked). Some (after_asked s n t a)) (sym asked)
