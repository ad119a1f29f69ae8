-- What a healing step leaves of the board.
use Rattle.std.specs.Prelude.{◌≡◌, ℕ, ◌+◌, ◌≤◌, List, [], ◌∷◌, ◌++◌, filter, length, Contains, Some}
use Rattle.cache_ident.specs.declared.names.Name.{Name}
use Rattle.cache_ident.specs.declared.names.ThreadNo.{ThreadNo}
use Rattle.cache_ident.specs.Residents.{Resident, IsNameResident}
use Rattle.flat_state.specs.declared.events.Event.TheVariants.{Step}
use Rattle.flat_state.specs.declared.records.NextStep.{NextStep}
use Rattle.flat_state.specs.Events.{after_event}
use Rattle.flat_state.specs.NextSteps.{next_step}
use Rattle.board_core.specs.run_journal.specs.declared.entries.Entry.{Entry}
use Rattle.board_core.specs.desc_stores.specs.Contents.{residents_of, Contents}
use Rattle.board_core.specs.board_laws.specs.Moves.{KeepsLoaded}
use Rattle.board_core.specs.cached_machine.specs.Cached.{state_of}
use Rattle.board_core.specs.cached_machine.specs.Posts.{HasLoadedMarks}
use Rattle.board_chains.specs.Chains.{IsChainInOrder, IsFewByKind}
use Rattle.board_core.specs.Core.{contents_of, Recorded}
use Rattle.board_core.specs.Growth.{entry_of_step, GrowsBy, IsRoomMade}
use Rattle.board_heal.specs.Loads.{is_to_load, AreLoads}

-- A processor loaded what was missing of the chain of a thread's next step, in order, and took the step, which fits. Before the
-- loads nothing changed but room, and the step changed nothing of what is loaded. The chain has at most 5 kernels, 5 spaces,
-- 5 threads and 6 rows. All of it is loaded, and nothing of it has left. A thread that is still loaded is where it was. At most an
-- identifier fewer for each load can be issued without memory.
pub record IsHealed (cpu : ℕ) (whom : ThreadNo) (old new : Recorded) : Type 0 where
  pub next : NextStep
  pub its : next_step (state_of old.machine) whom.0 ≡ Some next
  pub chain : List Name
  pub order : IsChainInOrder (state_of old.machine) whom.0 next chain
  pub few : IsFewByKind chain
  pub begun : Recorded
  pub begins : IsRoomMade old begun
  pub loaded : Contents
  pub loads : List Entry
  pub are : AreLoads cpu old.machine.held.caps chain (filter (is_to_load (contents_of old)) chain) (contents_of begun) (length old.journal.entries) loaded loads
  pub keeps : KeepsLoaded loaded (contents_of new)
  pub most : length (filter (is_to_load (contents_of old)) chain) ≤ 21
  pub entries : GrowsBy (loads ++ entry_of_step whom next.faults cpu ∷ []) old new
  pub state : after_event (state_of old.machine) (Step whom) ≡ Some (state_of new.machine)
  pub steps : new.steps ≡ old.steps + 1
  pub there : (name : Name) → Contains chain name → IsNameResident (residents_of (contents_of new)) name
  pub stay : (r : Resident) → Contains (residents_of (contents_of old)) r → Contains chain r.name → Contains (residents_of (contents_of new)) r
  pub marks : HasLoadedMarks (contents_of old) (contents_of new)
  pub sealed : new.sealed ≡ old.sealed
  pub checkouts : new.checkouts ≡ old.checkouts
  pub spare : (contents_of old).spare ≤ (contents_of new).spare + length (filter (is_to_load (contents_of old)) chain)
