-- What is told of a journal is said of the tables.
use Rattle.std.proofs.Common.{List, subst, sym, ◌∙◌}
use Rattle.cache_ident.specs.Names.{first_name}
use Rattle.cache_ident.specs.Residents.{IsResident, Resident}
use Rattle.run_journal.specs.Legal.{first_ident}
use Rattle.run_journal.specs.Told.{nothing_told}
use Rattle.run_journal.proofs.Growth.{residents_told_from}
use Rattle.board_core.specs.Core.{IsSound, Recorded}
use Rattle.cache_board.proofs.board.Board.holds.Goals as goal

pub returns-clause-first : goal.returns-clause-first
returns-clause-first c = λ sealed.
    let same = c.deref.ensures ∙ c.self.view_is in
    let sound = subst (λ (b : Recorded). IsSound b) same c.holds.ensures in
    let told = sym (residents_told_from nothing_told c.args.self.now.journal.entries) ∙ sound.told.residents in
    subst (λ (rs : List Resident). IsResident rs first_ident first_name) told
    (c.the_first_kernel_stays_loaded.ensures.resident _ sound.told.legal (sound.told.seal ∙ sealed))
