-- What is kept of all that a descriptor depends on.
use Rattle.std.specs.Prelude.{◌≡◌, List, Contains}
use Rattle.cache_ident.specs.declared.idents.Ident.{Ident}
use Rattle.cache_ident.specs.declared.names.Name.{Name}
use Rattle.cache_ident.specs.Residents.{Resident}
use Rattle.desc_groups.specs.flat_state.specs.Dependence.{Depends}
use Rattle.desc_groups.specs.desc_stores.specs.Contents.{residents_of, Contents}
use Rattle.desc_groups.specs.desc_parents.specs.Seen.{seen}

-- all that a name depends on, as far as it is loaded, is kept
abbrev pub KeepsParentsOf : Contents → List Ident → Name → Type 0
KeepsParentsOf c keep name = (r : Resident) → Contains (residents_of c) r → Depends (seen c) name r.name → Contains keep r.ident

-- and all that what is loaded with an identifier depends on
abbrev pub KeepsParentsAs : Contents → List Ident → Ident → Type 0
KeepsParentsAs c keep ident = (r : Resident) → Contains (residents_of c) r → r.ident ≡ ident → KeepsParentsOf c keep r.name
