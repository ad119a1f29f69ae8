-- Steps one after another, and a completed call, over what is resident.
use Rattle.std.specs.Prelude.{◌≡◌, ℕ, ◌<◌, false, List, Contains, IsSome}
use Rattle.cache_ident.specs.declared.names.ThreadNo.{ThreadNo}
use Rattle.cache_ident.specs.declared.names.Name.{Name}
use Rattle.cache_ident.specs.Residents.{Resident, IsNameResident}
use Rattle.flat_state.specs.declared.events.Event.TheVariants.{Complete}
use Rattle.flat_state.specs.State.{FlatState}
use Rattle.flat_state.specs.Events.{after_event, applied}
use Rattle.run_journal.specs.Legal.{MayStep, StaysGood, after_steps, AreGood}

-- the thread may take each of so many steps
abbrev pub MayStepOn : FlatState → List Resident → ThreadNo → ℕ → Type 0
MayStepOn s rs thread steps = (n : ℕ) → n < steps → MayStep (after_steps s thread n) rs thread false

-- its call can be completed, and leaves what is resident whole
pub record LeavesGood (s : FlatState) (rs : List Resident) (thread : ThreadNo) : Type 0 where
  pub fits : IsSome (after_event s (Complete thread))
  pub good : AreGood (applied s (Complete thread)) rs

-- each of the names is resident, or one isn't
abbrev pub AreResident : List Resident → List Name → Type 0
AreResident rs names = (name : Name) → Contains names name → IsNameResident rs name

abbrev pub LackOne : List Resident → List Name → Type 0
LackOne rs names = (name : Name) × Contains names name × (IsNameResident rs name → ⊥)

-- the residents of these names stay good, or one wouldn't
abbrev pub AreGoodNames : FlatState → List Resident → List Name → Type 0
AreGoodNames s rs names = (r : Resident) → Contains names r.name → StaysGood s rs r

abbrev pub SpoilOne : FlatState → List Resident → List Name → Type 0
SpoilOne s rs names = (name : Name) × Contains names name × ((r : Resident) → r.name ≡ name → StaysGood s rs r → ⊥)
