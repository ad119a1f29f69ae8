-- What is loaded, in order of loading.
use Rattle.std.specs.Prelude.{◌≡◌, Bool, false, not, if◌then◌else◌, List, [], ◌∷◌, ◌++◌, map, filter, Contains}
use Rattle.cache_ident.specs.declared.idents.Ident.{Ident}
use Rattle.cache_ident.specs.declared.names.Name.{Name}
use Rattle.cache_ident.specs.Rolls.{is_same}

-- a loaded descriptor: the identifier that this load gave it, its name, and whether it is locked
pub record Resident : Type 0 where
  pub ident : Ident
  pub name : Name
  pub locked : Bool

-- what is resident, once a descriptor is loaded, which is not locked then
abbrev pub with_loaded : Ident → Name → List Resident → List Resident
with_loaded ident name residents = residents ++ record { ident = ident; name = name; locked = false } ∷ []

-- what is resident, once that one has left
abbrev pub without : Ident → List Resident → List Resident
without ident residents = filter (λ resident. not (is_same resident.ident ident)) residents

-- what is resident, once that one is locked or unlocked
abbrev pub locked_if : Ident → Bool → Resident → Resident
locked_if ident locked resident = if is_same resident.ident ident then record resident { locked = locked } else resident

abbrev pub with_lock : Ident → Bool → List Resident → List Resident
with_lock ident locked residents = map (locked_if ident locked) residents

-- the identifier is resident, the name is, or the one under the other
abbrev pub IsIdentResident : List Resident → Ident → Type 0
IsIdentResident residents ident = (resident : Resident) × Contains residents resident × (resident.ident ≡ ident)

abbrev pub IsNameResident : List Resident → Name → Type 0
IsNameResident residents name = (resident : Resident) × Contains residents resident × (resident.name ≡ name)

abbrev pub IsResident : List Resident → Ident → Name → Type 0
IsResident residents ident name = (resident : Resident) × Contains residents resident × (resident.ident ≡ ident) × (resident.name ≡ name)
