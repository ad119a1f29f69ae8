use Rattle.std.proofs.Common.{sym, ◌∙◌}
use Rattle.std.proofs.lemmas.Bool.{false≢true}
use Rattle.cache_ident.specs.declared.idents.Cause.TheVariants.{Displaced}
use Rattle.residents.specs.Tables.{resident_of}
use Rattle.run_journal.specs.Legal.{LeavesBy}
use Rattle.journal_facts.specs.Facts.{AreFactsBehind}
use Rattle.journal_facts.proofs.Standing.{if_answered, match_map}
use Rattle.journal_facts.proofs.Departing.{EndsGroup}
use Rattle.journal_facts.proofs.facts.Facts.leave_for_another.Goals as goal

pub returns-then-held : goal.returns-then-held
returns-then-held c = λ k are sealed may by. false≢true (sym by.1 ∙ c.if-held.true)

pub returns-then-not-was_full : goal.returns-then-not-was_full
returns-then-not-was_full c = λ k are sealed may by. false≢true (sym c.if-not-was_full.true ∙ (c.was_full.ensures k are).1 by.2)

pub returns : goal.returns
returns c =
    let held = c.args.held in
    let new = c.leave_last.new.self in
    if_answered c.leave_last.result _ (EndsGroup c.args.self.now new held Displaced)
    (λ kept is k are sealed may.
    match_map kept _ _ (LeavesBy Displaced k (resident_of held) × AreFactsBehind new k held.ident) (LeavesBy Displaced k (resident_of held) → ⊥)
    (is k are sealed may)
    (λ both. ((both.0, c.if-held.false, (c.was_full.ensures k are).0 c.if-not-was_full.false), both.1))
    (λ not by. not by.0))
    c.leave_last.ensures
