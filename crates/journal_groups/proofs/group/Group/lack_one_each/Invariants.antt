use Rattle.std.proofs.Common.{List}
use Rattle.cache_ident.specs.Residents.{Resident}
use Rattle.residents.specs.Tables.{AreThose}
use Rattle.journal_groups.proofs.Lacking.{LackTo}
use Rattle.journal_groups.proofs.group.Group.lack_one_each.Given as goal

abbrev pub invariant-loop-gone : goal.invariant-loop-gone
invariant-loop-gone l = (rs : List Resident) → AreThose l.residents rs → LackTo l.flat rs l.self.gone.items l.gone-index
