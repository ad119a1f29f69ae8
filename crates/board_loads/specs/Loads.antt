-- What a load leaves of the board.
use Rattle.std.specs.Prelude.{◌≡◌, ℕ, ◌+◌, ◌≤◌, List, [], ◌∷◌, ◌++◌, length, Contains, None}
use Rattle.cache_ident.specs.declared.idents.Ident.{Ident}
use Rattle.cache_ident.specs.declared.names.Name.{Name}
use Rattle.cache_ident.specs.declared.names.Name.TheVariants.{Thread}
use Rattle.cache_ident.specs.declared.names.ThreadNo.{ThreadNo}
use Rattle.cache_ident.specs.Residents.{Resident, IsResident}
use Rattle.board_checks.specs.run_journal.specs.declared.entries.Entry.TheVariants.{Loaded}
use Rattle.board_checks.specs.Keeps.{IsAbove}
use Rattle.board_checks.specs.desc_stores.specs.Contents.{residents_of}
use Rattle.board_checks.specs.desc_tables.specs.May.{MayBeLoaded}
use Rattle.board_core.specs.board_laws.specs.Moves.{written_back, IsLoad}
use Rattle.board_core.specs.cached_machine.specs.Cached.{state_of}
use Rattle.board_core.specs.cached_machine.specs.Posts.{mark_of, HasLoadedMarks}
use Rattle.board_core.specs.Core.{contents_of, Recorded}
use Rattle.board_core.specs.Growth.{GrowsBy}

-- A processor loaded the name, which got the identifier, while what is in `keep` stayed: all that the name depends on, over any
-- number of steps, and nothing else. What left for it, if anything did, is in the journal, and then the load. The machine shows
-- what it showed. A thread that was loaded is on no processor, and one that is still loaded is where it was. One identifier fewer
-- at most can be issued without memory.
pub record IsLoadedAs (cpu : ℕ) (name : Name) (ident : Ident) (old new : Recorded) : Type 0 where
  pub keep : List Ident
  pub may : MayBeLoaded (contents_of old) name keep
  pub only : (kept : Ident) → Contains keep kept → IsAbove (contents_of old) name kept
  pub entries : GrowsBy (written_back cpu new.machine.held.gone ++ Loaded ident name cpu ∷ []) old new
  pub load : IsLoad old.machine.held.caps (contents_of old) (contents_of new) name keep (length old.journal.entries) new.machine.held.gone ident
  pub there : IsResident (residents_of (contents_of new)) ident name
  pub stay : (r : Resident) → Contains (residents_of (contents_of old)) r → Contains keep r.ident → Contains (residents_of (contents_of new)) r
  pub state : state_of new.machine ≡ state_of old.machine
  pub marks : HasLoadedMarks (contents_of old) (contents_of new)
  pub unmarked : (no : ThreadNo) → name ≡ Thread no → mark_of (contents_of new) no ≡ None
  pub sealed : new.sealed ≡ old.sealed
  pub checkouts : new.checkouts ≡ old.checkouts
  pub spare : (contents_of old).spare ≤ (contents_of new).spare + 1
