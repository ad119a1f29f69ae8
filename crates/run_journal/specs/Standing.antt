-- Where an identifier stands.
use Rattle.std.specs.Prelude.{◌≡◌, ℕ, ◌+◌, if◌then◌else◌, List, [], ◌∷◌, Contains, Some, slice_get}
use Rattle.cache_ident.specs.declared.idents.Ident.{Ident}
use Rattle.cache_ident.specs.declared.idents.Cause.{Cause}
use Rattle.cache_ident.specs.declared.idents.Standing.{Standing}
use Rattle.cache_ident.specs.declared.idents.Standing.TheVariants.{Live, Left, Never}
use Rattle.cache_ident.specs.declared.names.Name.{Name}
use Rattle.cache_ident.specs.Rolls.{is_same}
use Rattle.cache_ident.specs.Residents.{IsIdentResident}
use Rattle.run_journal.specs.declared.entries.Entry.{Entry}
use Rattle.run_journal.specs.declared.entries.Entry.TheVariants.{Declared, Sealed, Loaded, WrittenBack, Locked, Unlocked, Ran, Ended, Completed}
use Rattle.run_journal.specs.Told.{residents}

-- some entry loaded it
abbrev pub WasLoaded : List Entry → Ident → Type 0
WasLoaded j ident = (name : Name) × (cpu : ℕ) × Contains j (Loaded ident name cpu)

-- it is resident; it left by the entry at that place; or no entry loaded it
abbrev pub StandsAs : List Entry → Ident → Standing → Type 0
StandsAs j ident Live = IsIdentResident (residents j) ident
StandsAs j ident (Left at) = (cause : Cause) × (cpu : ℕ) × (slice_get j at ≡ Some (WrittenBack ident cause cpu))
StandsAs j ident Never = WasLoaded j ident → ⊥

-- where it stands after one more entry, which has that place
abbrev pub standing_after : ℕ → Ident → Standing → Entry → Standing
standing_after at ident standing (Declared d) = standing
standing_after at ident standing Sealed = standing
standing_after at ident standing (Loaded other name cpu) = if is_same other ident then Live else standing
standing_after at ident standing (WrittenBack other cause cpu) = if is_same other ident then Left at else standing
standing_after at ident standing (Locked other cpu) = standing
standing_after at ident standing (Unlocked other cpu) = standing
standing_after at ident standing (Ran thread steps cpu) = standing
standing_after at ident standing (Ended thread cpu) = standing
standing_after at ident standing (Completed thread cpu) = standing

abbrev pub standing_from : ℕ → Ident → Standing → List Entry → Standing
standing_from at ident standing [] = standing
standing_from at ident standing (e ∷ es) = standing_from (at + 1) ident (standing_after at ident standing e) es

-- where an identifier stands after a journal, entry by entry
abbrev pub standing_of : List Entry → Ident → Standing
standing_of j ident = standing_from 0 ident Never j
