-- Boards keep their owners, whatever is called.
use Rattle.std.proofs.Common.{ℕ, List, sym, subst}
use Rattle.run_journal.specs.declared.entries.Entry.{Entry}
use Rattle.run_journal.specs.Legal.{IsLegal}
use Rattle.alone_run.specs.board_core.specs.Core.{Recorded}
use Rattle.alone_run.specs.board_core.specs.Going.{IsOneEvent}
use Rattle.alone_run.specs.owners.specs.Known.{Known}
use Rattle.alone_run.specs.owners.specs.Owning.{AreOwnersOf}
use Rattle.alone_run.specs.owners.proofs.Learning.{still_owners}
use Rattle.worked_runs.specs.Owned.{HasOwners}

pub owned_on : (cpu : ℕ) (old new : Recorded) (known : Known) → IsOneEvent cpu old new → HasOwners old known → HasOwners new known
owned_on cpu old new known event was =
    let grown = event.grew.grows.entries in
    record {
      sealed = event.grew.sealed was.sealed;
      owners = subst (λ (es : List Entry). AreOwnersOf es known) (sym grown) (still_owners old.journal.entries event.grew.entries known was.owners (subst IsLegal grown event.sound.told.legal));
    }
