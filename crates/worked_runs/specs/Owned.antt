-- Boards whose run can go on.
use Rattle.std.specs.Prelude.{◌≡◌, true}
use Rattle.alone_run.specs.board_core.specs.Core.{Recorded}
use Rattle.alone_run.specs.owners.specs.Known.{Known}
use Rattle.alone_run.specs.owners.specs.Owning.{AreOwnersOf}

-- the board is sealed, and these are its owners
pub record HasOwners (b : Recorded) (known : Known) : Type 0 where
  pub sealed : b.sealed ≡ true
  pub owners : AreOwnersOf b.journal.entries known
