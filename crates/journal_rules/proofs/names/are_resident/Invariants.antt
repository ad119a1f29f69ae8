use Rattle.std.proofs.Common.{List}
use Rattle.cache_ident.specs.Residents.{Resident}
use Rattle.residents.specs.Tables.{AreThose}
use Rattle.journal_rules.proofs.Naming.{AreResidentTo}
use Rattle.journal_rules.proofs.names.are_resident.Given as goal

abbrev pub invariant-loop-name : goal.invariant-loop-name
invariant-loop-name l = (rs : List Resident) → AreThose l.residents rs → AreResidentTo rs l.names l.name-index
