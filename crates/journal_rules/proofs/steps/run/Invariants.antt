use Rattle.std.proofs.Common.{◌≡◌, List}
use Rattle.cache_ident.specs.Residents.{Resident}
use Rattle.residents.specs.Tables.{AreThose}
use Rattle.run_journal.specs.Legal.{after_steps}
use Rattle.journal_rules.specs.Running.{MayStepOn}
use Rattle.journal_rules.proofs.steps.run.Given as goal

abbrev pub invariant-loop : goal.invariant-loop
invariant-loop l = (l.flat ≡ after_steps l.fn.flat l.thread l.counter) × ((rs : List Resident) → AreThose l.residents rs → MayStepOn l.fn.flat rs l.thread l.counter)
