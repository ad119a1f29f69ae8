-- Pages whose row is to be loaded, and pages of which nothing is.
use Rattle.std.specs.Prelude.{◌≡◌, ◌⊎◌, true, false, None, Some}
use Rattle.cache_ident.specs.declared.names.Name.TheVariants.{Mapping}
use Rattle.cache_ident.specs.declared.names.SpaceNo.{SpaceNo}
use Rattle.cache_ident.specs.declared.names.Vpn.{Vpn}
use Rattle.cache_ident.specs.Residents.{IsNameResident}
use Rattle.phys_groups.specs.declared.rows.Row.{Row}
use Rattle.phys_groups.specs.Translation.{row_of}
use Rattle.board_calls.specs.flat_state.specs.State.{FlatState}
use Rattle.board_calls.specs.flat_state.specs.Translation.{is_fit_row}
use Rattle.board_calls.specs.desc_stores.specs.Contents.{residents_of}
use Rattle.board_calls.specs.board_ops.specs.declared.refusals.Refused.{Refused}
use Rattle.board_calls.specs.board_ops.specs.declared.refusals.Refused.TheVariants.{AlreadyLoaded, NotDeclared, ReceiversAbsent, Rights}
use Rattle.board_calls.specs.cached_machine.specs.Cached.{state_of}
use Rattle.board_calls.specs.board_core.specs.Core.{contents_of, Recorded}
use Rattle.reach_laws.specs.Reaching.{IsPlainLoaded}

-- the row of the page is fit and no message row, and isn't loaded
pub record IsFillable (b : Recorded) (space : SpaceNo) (vpn : Vpn) : Type 0 where
  pub row : Row
  pub here : row_of (state_of b.machine).rows space vpn.0 ≡ Some row
  pub fit : is_fit_row (state_of b.machine) row ≡ true
  pub plain : row.flags.m ≡ false
  pub absent : IsNameResident (residents_of (contents_of b)) (Mapping space vpn) → ⊥

-- the page has a row that isn't fit
pub record HasUnfitRow (s : FlatState) (space : SpaceNo) (vpn : Vpn) : Type 0 where
  pub row : Row
  pub here : row_of s.rows space vpn.0 ≡ Some row
  pub unfit : is_fit_row s row ≡ false

-- the page has no row, or one that isn't fit, or one that is loaded and has neither receiver nor flag m
abbrev pub IsUnfillable : Recorded → SpaceNo → Vpn → Type 0
IsUnfillable b space vpn = (row_of (state_of b.machine).rows space vpn.0 ≡ None) ⊎ (HasUnfitRow (state_of b.machine) space vpn ⊎ IsPlainLoaded b space vpn)

-- the load of a row is refused since there is nothing to load
abbrev pub IsNothingToLoad : Refused → Type 0
IsNothingToLoad (AlreadyLoaded ident) = Unit {0}
IsNothingToLoad (NotDeclared name) = Unit {0}
IsNothingToLoad (Rights frame group) = Unit {0}
IsNothingToLoad _ = ⊥

-- .. or for another reason than that, or that signal rows are wanted
abbrev pub IsElse : Refused → Type 0
IsElse (AlreadyLoaded ident) = ⊥
IsElse (NotDeclared name) = ⊥
IsElse (Rights frame group) = ⊥
IsElse (ReceiversAbsent space vpn) = ⊥
IsElse _ = Unit {0}
