-- What an unload, a lock and the end of a lock leave of the board.
use Rattle.std.specs.Prelude.{◌≡◌, ℕ, ◌≤◌, Bool, true, false, if◌then◌else◌, List, [], ◌∷◌, Contains, length}
use Rattle.cache_ident.specs.declared.idents.Cause.TheVariants.{Unloaded}
use Rattle.cache_ident.specs.declared.idents.Ident.{Ident}
use Rattle.cache_ident.specs.Residents.{Resident, with_lock}
use Rattle.board_checks.specs.run_journal.specs.declared.entries.Entry.{Entry}
use Rattle.board_checks.specs.run_journal.specs.declared.entries.Entry.TheVariants.{Locked, Unlocked}
use Rattle.board_checks.specs.run_journal.specs.Groups.{IsGroup}
use Rattle.board_checks.specs.desc_stores.specs.Contents.{residents_of}
use Rattle.board_checks.specs.desc_parents.specs.Seen.{seen}
use Rattle.board_checks.specs.desc_groups.specs.Moves.{departed_all, gone_as, idents_of}
use Rattle.board_core.specs.group_laws.specs.Leaving.{without_all}
use Rattle.board_core.specs.board_laws.specs.Moves.{written_back}
use Rattle.board_core.specs.cached_machine.specs.Cached.{state_of}
use Rattle.board_core.specs.cached_machine.specs.Posts.{HasLoadedMarks, HasSameMarks}
use Rattle.board_core.specs.Core.{contents_of, Recorded}
use Rattle.board_core.specs.Growth.{GrowsBy}

-- A processor unloaded what had the identifier, and before it all that depends on it, which is in the journal, and is stale from
-- there on. The machine shows what it showed. A thread that is still loaded is where it was. No fewer identifiers can be issued
-- without memory.
pub record IsUnloadedAs (cpu : ℕ) (ident : Ident) (old new : Recorded) : Type 0 where
  pub root : Resident
  pub there : Contains (residents_of (contents_of old)) root
  pub its : root.ident ≡ ident
  pub group : IsGroup (seen (contents_of old)) (residents_of (contents_of old)) root (idents_of new.machine.held.gone)
  pub causes : new.machine.held.gone ≡ gone_as Unloaded (idents_of new.machine.held.gone)
  pub entries : GrowsBy (written_back cpu new.machine.held.gone) old new
  pub residents : residents_of (contents_of new) ≡ without_all (idents_of new.machine.held.gone) (residents_of (contents_of old))
  pub issued : (contents_of new).issued ≡ departed_all (contents_of old).issued (idents_of new.machine.held.gone) (length old.journal.entries)
  pub state : state_of new.machine ≡ state_of old.machine
  pub marks : HasLoadedMarks (contents_of old) (contents_of new)
  pub sealed : new.sealed ≡ old.sealed
  pub checkouts : new.checkouts ≡ old.checkouts
  pub spare : (contents_of old).spare ≤ (contents_of new).spare

-- the entry of a lock, or of its end, of what was locked or not: none where it is as it was
abbrev pub entries_of_lock : Bool → Bool → Ident → ℕ → List Entry
entries_of_lock true was ident cpu = if was then [] else Locked ident cpu ∷ []
entries_of_lock false was ident cpu = if was then Unlocked ident cpu ∷ [] else []

-- a processor locked what has the identifier, or ended its lock, and nothing else changed
pub record IsLockedAs (cpu : ℕ) (ident : Ident) (on : Bool) (old new : Recorded) : Type 0 where
  pub found : Resident
  pub there : Contains (residents_of (contents_of old)) found
  pub its : found.ident ≡ ident
  pub entries : GrowsBy (entries_of_lock on found.locked ident cpu) old new
  pub residents : residents_of (contents_of new) ≡ with_lock ident on (residents_of (contents_of old))
  pub issued : (contents_of new).issued ≡ (contents_of old).issued
  pub marks : HasSameMarks (contents_of old) (contents_of new)
  pub sealed : new.sealed ≡ old.sealed
  pub checkouts : new.checkouts ≡ old.checkouts
  pub spare : (contents_of old).spare ≤ (contents_of new).spare
