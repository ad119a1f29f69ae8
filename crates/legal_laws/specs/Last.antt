-- What has to come, and what is leaving, by the last entries of a journal.
use Rattle.std.specs.Prelude.{◌≡◌, ℕ, List, [], ◌∷◌, ◌++◌, map, count_by}
use Rattle.cache_ident.specs.declared.idents.Cause.TheVariants.{Dependent, Displaced}
use Rattle.cache_ident.specs.declared.idents.Ident.{Ident}
use Rattle.cache_ident.specs.declared.names.Name.{Name}
use Rattle.cache_ident.specs.Residents.{Resident}
use Rattle.group_laws.specs.run_journal.specs.declared.entries.Entry.{Entry}
use Rattle.group_laws.specs.run_journal.specs.declared.entries.Entry.TheVariants.{Sealed, Loaded, WrittenBack}
use Rattle.group_laws.specs.run_journal.specs.Told.{is_load, residents, Due, Opening, Anything, FirstLoad, FirstLock, Departure, Load}

abbrev pub EndsWith : List Entry → Entry → Type 0
EndsWith j e = (earlier : List Entry) × (j ≡ earlier ++ e ∷ [])

-- the last entry is a load, and the only one
pub record EndsWithFirstLoad (j : List Entry) : Type 0 where
  pub ident : Ident
  pub name : Name
  pub cpu : ℕ
  pub earlier : List Entry
  pub its : j ≡ earlier ++ Loaded ident name cpu ∷ []
  pub first : count_by is_load earlier ≡ 0

-- The journal wants something of its own next: the machine, where nothing has happened; the first load behind the seal; the first lock
-- behind the first load; a departure by the same processor behind a dependent; and a load of the kind, by the same processor, behind
-- what is displaced.
abbrev pub Wants : List Entry → Due → Type 0
Wants j Opening = j ≡ []
Wants j FirstLoad = EndsWith j Sealed
Wants j FirstLock = EndsWithFirstLoad j
Wants j (Departure cpu) = (ident : Ident) × EndsWith j (WrittenBack ident Dependent cpu)
Wants j (Load kind cpu) = (ident : Ident) × EndsWith j (WrittenBack ident Displaced cpu) × (ident.kind ≡ kind)
Wants j Anything = ⊥

-- this has to come next, and anything may where the journal wants nothing of its own
abbrev pub IsNext : List Entry → Due → Type 0
IsNext j Anything = (due : Due) → Wants j due → ⊥
IsNext j due = Wants j due

-- departures of dependents, each with its processor
abbrev pub dependents : List (Ident × ℕ) → List Entry
dependents gone = map (λ one. WrittenBack one.0 Dependent one.1) gone

-- these are all that left at the end of the journal as dependents, one behind another, and that was resident before them
pub record AreLeaving (j : List Entry) (before : List Resident) (left : List Ident) : Type 0 where
  pub earlier : List Entry
  pub gone : List (Ident × ℕ)
  pub its : j ≡ earlier ++ dependents gone
  pub all : (ident : Ident) (cpu : ℕ) → EndsWith earlier (WrittenBack ident Dependent cpu) → ⊥
  pub resident : before ≡ residents earlier
  pub they : left ≡ map (λ one. one.0) gone
