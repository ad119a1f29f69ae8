-- What a call can touch, as the code names it.
use Rattle.std.specs.Prelude.{◌≡◌, ◌↔◌, ◌⊎◌, ℕ, ◌/◌, ◌%◌, ◌<◌, List, Contains}
use Rattle.cache_ident.specs.declared.names.Name.{Name}
use Rattle.cache_ident.specs.declared.names.Name.TheVariants.{Mapping}
use Rattle.cache_ident.specs.declared.names.SpaceNo.{SpaceNo}
use Rattle.cache_ident.specs.Residents.{Resident, IsNameResident}
use Rattle.flat_state.specs.fault_forward.specs.Calls.{completion_of}
use Rattle.flat_state.specs.fault_forward.specs.declared.effects.Effect.{Effect}
use Rattle.flat_state.specs.fault_forward.specs.declared.effects.Effect.TheVariants as effects
use Rattle.flat_state.specs.declared.records.FlatThread.{FlatThread}
use Rattle.residents.specs.declared.list.Residents.{Residents}
use Rattle.residents.specs.declared.relying.Reliance.{Reliance}
use Rattle.residents.specs.declared.relying.Reliance.TheVariants.{Signals, Rights}
use Rattle.residents.specs.declared.relying.RelyingRows.{RelyingRows}
use Rattle.residents.specs.Relying.{IsRelying}
use Rattle.residents.specs.Tables.{AreThose}
use Rattle.journal_rules.specs.declared.calls.Touched.{Touched}
use Rattle.journal_rules.specs.declared.calls.Touched.TheVariants.{Nothing, Row, OnFrame, RightsOf}

-- what an effect changes is no more than that: a new row the signal rows of its frame, a row that goes itself, and rights on a
-- group those of the kernel there, and the signal rows that they make fit
abbrev pub Covers : Touched → SpaceNo → Effect → Type 0
Covers touched space (effects.Map vpn frame flags receiver) = touched ≡ OnFrame (record { 0 = frame })
Covers touched space (effects.Unmap vpn) = touched ≡ Row (Mapping space (record { 0 = vpn }))
Covers touched space (effects.Grant kernel group bits) = touched ≡ RightsOf (record { 0 = kernel }) group
Covers touched space effects.Ready = Unit {0}
Covers touched space (effects.Put byte) = Unit {0}
Covers touched space (effects.Decimal number) = Unit {0}
Covers touched space (effects.End reason) = Unit {0}
Covers touched space (effects.Spawn pc a0 priority) = Unit {0}

-- .. of the call that the thread is in
abbrev pub CoversCall : FlatThread → Touched → Type 0
CoversCall t touched = Covers touched t.space (completion_of t.no t.context t.queue.items).effect

-- it is one of what changes
abbrev pub Changes : Touched → Reliance → Type 0
Changes Nothing reliance = ⊥
Changes (Row row) reliance = ⊥
Changes (OnFrame frame) (Signals group place) = (group ≡ frame.0 / 128) × (place ≡ frame.0 % 128)
Changes (OnFrame frame) (Rights kernel group reads writes) = ⊥
Changes (RightsOf kernel group) (Signals other place) = (other ≡ group) × (place < 128)
Changes (RightsOf kernel group) (Rights other place reads writes) = (other ≡ kernel) × (place ≡ group)

-- where some row relies on it, one of the names does
abbrev pub HasOne : RelyingRows → List Name → Reliance → Type 0
HasOne rows names reliance = (name : Name) → IsRelying rows reliance name → (one : Name) × Contains names one × IsRelying rows reliance one

-- each of the names relies on something
abbrev pub AreRelying : RelyingRows → List Name → Type 0
AreRelying rows names = (name : Name) → Contains names name → (reliance : Reliance) × IsRelying rows reliance name

-- the names have a row of each of these, and only rows
pub record HaveOnes (rows : RelyingRows) (touched : Touched) (names : List Name) : Type 0 where
  pub ones : (reliance : Reliance) → Changes touched reliance → HasOne rows names reliance
  pub rows_alone : AreRelying rows names

-- one more name, of a row that relies on it, if there is one
pub record AddsOne (rows : RelyingRows) (reliance : Reliance) (old new : List Name) : Type 0 where
  pub kept : (name : Name) → Contains old name → Contains new name
  pub other : (name : Name) → Contains new name → Contains old name ⊎ IsRelying rows reliance name
  pub one : HasOne rows new reliance

-- .. and of each frame of a group, from the first place to one
pub record AddsPlaces (rows : RelyingRows) (group places : ℕ) (old new : List Name) : Type 0 where
  pub kept : (name : Name) → Contains old name → Contains new name
  pub other : (name : Name) → Contains new name → Contains old name ⊎ ((reliance : Reliance) × IsRelying rows reliance name)
  pub ones : (place : ℕ) → place < places → HasOne rows new (Signals group place)

-- the name alone, where something of that name is resident
abbrev pub IsAlone : Residents → Name → List Name → Type 0
IsAlone residents name names = (rs : List Resident) → AreThose residents rs → (other : Name) → Contains names other ↔ ((other ≡ name) × IsNameResident rs name)

-- the names of what is asked: the row that goes, if it is resident, or a row of each that changes
abbrev pub AreAsked : Residents → RelyingRows → Touched → List Name → Type 0
AreAsked residents rows (Row row) names = IsAlone residents row names
AreAsked residents rows touched names = HaveOnes rows touched names
