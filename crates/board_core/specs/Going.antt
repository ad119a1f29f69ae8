-- How a board goes on, by calls of one processor.
use Rattle.std.specs.Prelude.{◌≡◌, ℕ, true, List, Some}
use Rattle.std.specs.List.{AllByRecursion}
use Rattle.cache_ident.specs.declared.names.ThreadNo.{ThreadNo}
use Rattle.run_journal.specs.declared.entries.Entry.{Entry}
use Rattle.run_journal.specs.Entries.{maker_of}
use Rattle.cached_machine.specs.Posts.{last_of, mark_of}
use Rattle.board_core.specs.Core.{contents_of, IsSound, Recorded}
use Rattle.board_core.specs.Growth.{GrowsBy}

-- the processor made each of the entries
abbrev pub AreMadeBy : ℕ → List Entry → Type 0
AreMadeBy cpu es = AllByRecursion (λ e. maker_of e ≡ cpu) es

-- The board grew: the journal by entries that this processor made, and the flat reading by their events. Which machine it is, with
-- its capacities, and how many steps may be taken stay, and so does the seal.
pub record Grew (cpu : ℕ) (old new : Recorded) : Type 0 where
  pub entries : List Entry
  pub made : AreMadeBy cpu entries
  pub grows : GrowsBy entries old new
  pub sealed : old.sealed ≡ true → new.sealed ≡ true

-- The board goes on: it grew, whoever is on a processor was on it before, and what was checked out last stays.
pub record GoesOn (cpu : ℕ) (old new : Recorded) : Type 0 where
  pub grew : Grew cpu old new
  pub marks : (no : ThreadNo) (by : ℕ) → mark_of (contents_of new) no ≡ Some by → mark_of (contents_of old) no ≡ Some by
  pub lasts : (no : ThreadNo) → last_of (contents_of new) no ≡ last_of (contents_of old) no
  pub checkouts : new.checkouts ≡ old.checkouts

-- a processor did one event: the board grew, and it was and is sound
pub record IsOneEvent (cpu : ℕ) (old new : Recorded) : Type 0 where
  pub grew : Grew cpu old new
  pub was : IsSound old
  pub sound : IsSound new
