-- Which of what is resident has to go.
use Rattle.std.specs.Prelude.{◌≡◌, ◌≤◌, false, List, Contains}
use Rattle.cache_ident.specs.declared.idents.Ident.{Ident}
use Rattle.cache_ident.specs.declared.idents.Kind.{Kind}
use Rattle.cache_ident.specs.Residents.{Resident}

-- a resident of the kind that is neither locked nor kept
pub record MayGo (kind : Kind) (keep : List Ident) (resident : Resident) : Type 0 where
  pub of_kind : resident.ident.kind ≡ kind
  pub unlocked : resident.locked ≡ false
  pub not_kept : Contains keep resident.ident → ⊥

-- of those of the kind that may go, the one that was loaded first
pub record IsOldest (residents : List Resident) (kind : Kind) (keep : List Ident) (resident : Resident) : Type 0 where
  pub there : Contains residents resident
  pub may_go : MayGo kind keep resident
  pub oldest : (other : Resident) → Contains residents other → MayGo kind keep other → resident.ident.serial ≤ other.ident.serial
