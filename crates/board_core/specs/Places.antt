-- Where each descriptor is.
use Rattle.std.specs.Prelude.{◌≡◌, ◌⊎◌, true, Contains, Some}
use Rattle.cache_ident.specs.declared.names.KernelNo.{KernelNo}
use Rattle.cache_ident.specs.declared.names.Name.{Name}
use Rattle.cache_ident.specs.Residents.{Resident, IsNameResident}
use Rattle.flat_state.specs.Dependence.{owner}
use Rattle.flat_state.specs.Events.{flat}
use Rattle.flat_state.specs.Names.{stands}
use Rattle.flat_state.specs.State.{FlatState}
use Rattle.run_journal.specs.Entries.{erase}
use Rattle.cached_machine.specs.desc_stores.specs.Contents.{residents_of, shelf_owner}
use Rattle.board_core.specs.Core.{contents_of, Recorded}

-- what the journal makes of the machine with unlimited tables: what was declared or made, and not unmapped, stands there
abbrev pub flat_of : Recorded → FlatState
flat_of b = flat (erase b.journal.entries)

-- the name is loaded
abbrev pub IsInItsCache : Recorded → Name → Type 0
IsInItsCache b n = IsNameResident (residents_of (contents_of b)) n

-- the name is on the shelf of that kernel
abbrev pub IsOnShelfOf : Recorded → Name → KernelNo → Type 0
IsOnShelfOf b n kernel = shelf_owner (contents_of b) n ≡ Some kernel

-- the name is on the shelf of the kernel that owns it
pub record IsWithItsOwner (b : Recorded) (n : Name) : Type 0 where
  pub kernel : KernelNo
  pub owns : owner (flat_of b) n ≡ Some kernel
  pub shelved : IsOnShelfOf b n kernel

-- Each name that was declared or made and not unmapped is loaded or with its owner, and never both; it is loaded once. No other
-- name is anywhere.
pub record IsInOnePlace (b : Recorded) : Type 0 where
  pub somewhere : (n : Name) → stands (flat_of b) n ≡ true → IsInItsCache b n ⊎ IsWithItsOwner b n
  pub never_both : (n : Name) (kernel : KernelNo) → IsInItsCache b n → IsOnShelfOf b n kernel → ⊥
  pub once : (r other : Resident) → Contains (residents_of (contents_of b)) r → Contains (residents_of (contents_of b)) other → r.name ≡ other.name → r ≡ other
  pub loaded_stands : (n : Name) → IsInItsCache b n → stands (flat_of b) n ≡ true
  pub shelved_stands : (n : Name) (kernel : KernelNo) → IsOnShelfOf b n kernel → stands (flat_of b) n ≡ true
