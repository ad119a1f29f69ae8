-- What owners keep of rows as they load what these depend on.
use Rattle.cache_ident.specs.declared.names.Name.TheVariants.{Mapping}
use Rattle.cache_ident.specs.declared.names.SpaceNo.{SpaceNo}
use Rattle.cache_ident.specs.declared.names.Vpn.{Vpn}
use Rattle.cache_ident.specs.Residents.{IsNameResident}
use Rattle.reach_laws.specs.desc_stores.specs.Contents.{residents_of}
use Rattle.reach_laws.specs.board_core.specs.Core.{contents_of, Recorded}
use Rattle.reach_laws.specs.Reaching.{IsPlainLoaded}

-- no row came
abbrev pub BringsNoRow : Recorded → Recorded → Type 0
BringsNoRow old new = (space : SpaceNo) (vpn : Vpn) → (IsNameResident (residents_of (contents_of old)) (Mapping space vpn) → ⊥) → IsNameResident (residents_of (contents_of new)) (Mapping space vpn) → ⊥

-- No row came, and the rows of the space that are loaded, and have neither receiver nor flag m, stay so.
pub record KeepsRows (space : SpaceNo) (old new : Recorded) : Type 0 where
  pub absent : BringsNoRow old new
  pub plain : (vpn : Vpn) → IsPlainLoaded old space vpn → IsPlainLoaded new space vpn
