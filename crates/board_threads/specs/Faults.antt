-- Steps that fault, and what is left of them.
use Rattle.std.specs.Prelude.{◌≡◌, ℕ, ◌+◌, ◌<◌, ◌≤◌, true, None, Some, ◌∷◌, []}
use Rattle.cache_ident.specs.declared.idents.Ident.{Ident}
use Rattle.cache_ident.specs.declared.names.Name.TheVariants as name
use Rattle.cache_ident.specs.declared.names.ThreadNo.{ThreadNo}
use Rattle.cache_ident.specs.Residents.{IsNameResident, IsResident}
use Rattle.flat_state.specs.declared.records.NextStep.{NextStep}
use Rattle.flat_state.specs.NextSteps.{next_step}
use Rattle.board_checks.specs.run_journal.specs.declared.entries.Entry.TheVariants.{Ended}
use Rattle.board_checks.specs.run_journal.specs.Legal.{MayStep}
use Rattle.board_checks.specs.desc_stores.specs.Contents.{residents_of}
use Rattle.board_core.specs.board_laws.specs.Moves.{KeepsLoaded}
use Rattle.board_core.specs.cached_machine.specs.Cached.{state_of}
use Rattle.board_core.specs.cached_machine.specs.Posts.{mark_of, HasSameMarks}
use Rattle.board_core.specs.Core.{contents_of, Recorded}
use Rattle.board_core.specs.Growth.{GrowsBy}

-- the next step of a loaded thread that no processor has faults, and may be taken
pub record IsFaulting (b : Recorded) (whom : ThreadNo) (next : NextStep) : Type 0 where
  pub its : next_step (state_of b.machine) whom.0 ≡ Some next
  pub faults : next.faults ≡ true
  pub may : MayStep (state_of b.machine) (residents_of (contents_of b)) whom next.faults
  pub loaded : IsNameResident (residents_of (contents_of b)) (name.Thread whom)
  pub unmarked : mark_of (contents_of b) whom ≡ None
  pub left : b.steps < b.limit

-- The thread that is loaded with the identifier has ended by its next step, which was taken. What is loaded, which thread is on
-- which processor, and its last checkout are as they were.
pub record HasEnded (thread : Ident) (cpu : ℕ) (old new : Recorded) : Type 0 where
  pub whom : ThreadNo
  pub named : IsResident (residents_of (contents_of old)) thread (name.Thread whom)
  pub entries : GrowsBy (Ended whom cpu ∷ []) old new
  pub loaded : KeepsLoaded (contents_of old) (contents_of new)
  pub marks : HasSameMarks (contents_of old) (contents_of new)
  pub steps : new.steps ≡ old.steps + 1
  pub sealed : new.sealed ≡ old.sealed
  pub checkouts : new.checkouts ≡ old.checkouts
  pub spare : (contents_of old).spare ≤ (contents_of new).spare
