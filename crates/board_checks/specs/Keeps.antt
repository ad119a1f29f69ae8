-- What a load keeps.
use Rattle.std.specs.Prelude.{◌≡◌, ◌≢◌, ◌⊎◌, List, [], ◌∷◌, ◌++◌, AllPairs, Contains}
use Rattle.cache_ident.specs.declared.idents.Ident.{Ident}
use Rattle.cache_ident.specs.declared.names.Name.{Name}
use Rattle.cache_ident.specs.Residents.{Resident, IsNameResident}
use Rattle.board_ops.specs.flat_state.specs.Dependence.{DependsFar}
use Rattle.desc_tables.specs.desc_stores.specs.Contents.{residents_of, Contents}
use Rattle.desc_tables.specs.May.{MayBeLoaded}
use Rattle.desc_tables.specs.desc_parents.specs.Seen.{seen}

-- the identifier is that of something loaded that the name depends on, over any number of steps
abbrev pub IsAbove : Contents → Name → Ident → Type 0
IsAbove c name ident = (r : Resident) × Contains (residents_of c) r × (r.ident ≡ ident) × DependsFar (seen c) name r.name

-- each identifier that is kept is such a one, and none is kept twice
pub record IsKept (c : Contents) (name : Name) (keep : List Ident) : Type 0 where
  pub above : (ident : Ident) → Contains keep ident → IsAbove c name ident
  pub once : AllPairs ◌≢◌ keep

-- the name may be loaded while these stay, which are all that it depends on, over any number of steps, and nothing else
pub record IsLoadableBeside (c : Contents) (name : Name) (keep : List Ident) : Type 0 where
  pub may : MayBeLoaded c name keep
  pub only : (ident : Ident) → Contains keep ident → IsAbove c name ident

-- the name is the one that is loaded, or it depends on that
abbrev pub IsOrIsAbove : Contents → Name → Name → Type 0
IsOrIsAbove c root name = (root ≡ name) ⊎ DependsFar (seen c) root name

-- they are kept for some name that isn't loaded
abbrev pub IsKeptForSome : Contents → List Ident → Type 0
IsKeptForSome c keep = (root : Name) × (IsNameResident (residents_of c) root → ⊥) × IsKept c root keep

-- and the name is that one, or it depends on that
abbrev pub IsAboveSome : Contents → List Ident → Name → Type 0
IsAboveSome c keep name = (root : Name) × (IsNameResident (residents_of c) root → ⊥) × IsKept c root keep × IsOrIsAbove c root name

-- the old identifiers are the first of the new ones
abbrev pub StartsWith : List Ident → List Ident → Type 0
StartsWith old new = (more : List Ident) × (new ≡ old ++ more)

-- the identifier is behind the old ones, if it wasn't among them
abbrev pub HasAlso : List Ident → List Ident → Ident → Type 0
HasAlso old new ident = (Contains old ident × (new ≡ old)) ⊎ ((Contains old ident → ⊥) × (new ≡ old ++ ident ∷ []))
