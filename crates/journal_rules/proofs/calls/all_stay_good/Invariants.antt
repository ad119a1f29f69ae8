use Rattle.std.proofs.Common.{List}
use Rattle.cache_ident.specs.Residents.{Resident}
use Rattle.residents.specs.Tables.{AreThose}
use Rattle.journal_rules.proofs.Completing.{AreGoodTo}
use Rattle.journal_rules.proofs.calls.all_stay_good.Given as goal

abbrev pub invariant-loop-name : goal.invariant-loop-name
invariant-loop-name l = (rs : List Resident) → AreThose l.residents rs → AreGoodTo l.flat rs l.names l.name-index
