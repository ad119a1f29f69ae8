-- What leaves one after another, and what that leaves.
use Rattle.std.specs.Prelude.{◌≡◌, ◌⊎◌, ℕ, ◌+◌, ◌≤◌, List, [], ◌∷◌, ◌++◌, length, Contains}
use Rattle.cache_ident.specs.declared.idents.Cause.TheVariants.{Unloaded}
use Rattle.cache_ident.specs.declared.idents.Ident.{Ident}
use Rattle.cache_ident.specs.Residents.{Resident, IsIdentResident}
use Rattle.flat_state.specs.State.{FlatState}
use Rattle.board_checks.specs.run_journal.specs.declared.entries.Entry.{Entry}
use Rattle.board_checks.specs.run_journal.specs.Groups.{IsGroup}
use Rattle.board_checks.specs.desc_stores.specs.Changes.{room_of}
use Rattle.board_checks.specs.desc_stores.specs.Contents.{residents_of}
use Rattle.board_core.specs.group_laws.specs.Leaving.{without_all}
use Rattle.board_checks.specs.desc_groups.specs.Moves.{gone_as}
use Rattle.board_checks.specs.desc_parents.specs.Seen.{seen}
use Rattle.board_core.specs.board_laws.specs.Moves.{written_back}
use Rattle.board_core.specs.cached_machine.specs.Cached.{state_of}
use Rattle.board_core.specs.cached_machine.specs.Posts.{HasLoadedMarks}
use Rattle.board_core.specs.Core.{contents_of, Recorded}
use Rattle.board_core.specs.Growth.{count_loaded, GrowsBy}

-- it isn't resident, and nothing happens
pub record IsGoneAlready (ident : Ident) (rs : List Resident) (entries : List Entry) (left : List Resident) : Type 0 where
  pub absent : IsIdentResident rs ident → ⊥
  pub nothing : entries ≡ []
  pub same : left ≡ rs

-- it is resident, and leaves with its group
pub record LeavesWhole (s : FlatState) (cpu : ℕ) (ident : Ident) (rs : List Resident) (entries : List Entry) (left : List Resident) : Type 0 where
  pub root : Resident
  pub there : Contains rs root
  pub its : root.ident ≡ ident
  pub idents : List Ident
  pub group : IsGroup s rs root idents
  pub told : entries ≡ written_back cpu (gone_as Unloaded idents)
  pub rest : left ≡ without_all idents rs

-- if it is still resident, it leaves with its group; these are the entries, and what is resident then
abbrev pub LeavesIfThere : FlatState → ℕ → Ident → List Resident → List Entry → List Resident → Type 0
LeavesIfThere s cpu ident rs entries left = IsGoneAlready ident rs entries left ⊎ LeavesWhole s cpu ident rs entries left

-- the same of some, one after another
abbrev pub LeaveInTurn : FlatState → ℕ → List Ident → List Resident → List Entry → List Resident → Type 0
LeaveInTurn s cpu [] rs entries left = (entries ≡ []) × (left ≡ rs)
LeaveInTurn s cpu (ident ∷ idents) rs entries left =
    (first : List Entry) × (later : List Entry) × (between : List Resident) × (entries ≡ first ++ later) × LeavesIfThere s cpu ident rs first between × LeaveInTurn s cpu idents between later left

-- Departures wrote these entries. The machine with unlimited tables stays, and what is loaded still is on the processors that it
-- was on. No identifier was issued for them.
pub record AreDepartures (entries : List Entry) (old new : Recorded) : Type 0 where
  pub grows : GrowsBy entries old new
  pub state : state_of new.machine ≡ state_of old.machine
  pub shows : seen (contents_of new) ≡ seen (contents_of old)
  pub fewer : count_loaded new + length entries ≤ count_loaded old
  pub marks : HasLoadedMarks (contents_of old) (contents_of new)
  pub sealed : new.sealed ≡ old.sealed
  pub checkouts : new.checkouts ≡ old.checkouts
  pub spare : (contents_of old).spare ≤ (contents_of new).spare

-- there is as much room for what is declared
pub record KeepsRoom (old new : Recorded) : Type 0 where
  pub room : room_of (contents_of new) ≡ room_of (contents_of old)
  pub sets : new.machine.sets ≡ old.machine.sets

-- of these identifiers each that was still loaded left with its group, one after another
pub record HaveLeft (cpu : ℕ) (idents : List Ident) (old new : Recorded) : Type 0 where
  pub entries : List Entry
  pub turns : LeaveInTurn (seen (contents_of old)) cpu idents (residents_of (contents_of old)) entries (residents_of (contents_of new))
  pub are : AreDepartures entries old new
  pub room : KeepsRoom old new

-- the same of one
pub record HasLeftIf (cpu : ℕ) (ident : Ident) (old new : Recorded) : Type 0 where
  pub entries : List Entry
  pub turn : LeavesIfThere (seen (contents_of old)) cpu ident (residents_of (contents_of old)) entries (residents_of (contents_of new))
  pub are : AreDepartures entries old new
  pub room : KeepsRoom old new
