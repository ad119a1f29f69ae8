use Rattle.std.proofs.Common.{Option, IsTrue, ◌↔◌, refl, sym, subst}
use Rattle.std.specs.Prelude.{IfSome}
use Rattle.run_journal.specs.declared.entries.Entry.{Entry}
use Rattle.run_journal.specs.Legal.{IsInPlace}
use Rattle.journal_facts.proofs.facts.Facts.is_in_place.Goals as goal

pub returns-in-Some : goal.returns-in-Some
returns-in-Some c = λ k are.
    subst (λ (o : Option Entry). IsTrue c.has_place_for.result ↔ IfSome o (IsInPlace k)) (sym c.in-Some.is) (c.has_place_for.ensures k are)

pub returns-in-None : goal.returns-in-None
returns-in-None c = λ k are. (λ e. subst (λ (o : Option Entry). IfSome o (IsInPlace k)) (sym c.in-None.is) tt, λ is. refl)
