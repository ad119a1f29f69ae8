use Rattle.std.proofs.Common.{take}
use Rattle.run_journal.specs.Told.{told}
use Rattle.journal_facts.specs.Facts.{AreFactsOf}
use Rattle.journal_check.proofs.Prefixes.{KeepBefore}
use Rattle.journal_check.proofs.checking.checked.Given as goal

-- the facts are what the entries before the place tell, and the places before it keep all rules
abbrev pub invariant-loop-at : goal.invariant-loop-at
invariant-loop-at l = record { facts : AreFactsOf l.facts (told (take l.at l.journal.entries)); before : KeepBefore l.decls l.journal.entries l.at }
