-- What was issued, and where each identifier stands.
use Rattle.std.specs.Prelude.{◌≡◌, ℕ, suc, Bool, if◌then◌else◌, List, [], ◌∷◌, map, Option, Some, None}
use Rattle.cache_ident.specs.declared.idents.Ident.{Ident}
use Rattle.cache_ident.specs.declared.idents.Standing.{Standing}
use Rattle.cache_ident.specs.declared.idents.Standing.TheVariants.{Live, Left, Never}
use Rattle.cache_ident.specs.declared.rolls.Issued.{Issued}
use Rattle.cache_ident.specs.contracts.idents.IdentPartialEq.TheImpl as ident

-- what a roll shows: all that it issued, in order, and how many more it can issue without memory
pub record Issues : Type 0 where
  pub issued : List Issued
  pub spare : ℕ

-- the two identifiers are one: kind, slot and serial agree
abbrev pub is_same : Ident → Ident → Bool
is_same = (ident.ghosts).eq

-- where an identifier stands that was issued
abbrev pub standing_since : Option ℕ → Standing
standing_since None = Live
standing_since (Some at) = Left at

-- where an identifier stands
abbrev pub standing_in : List Issued → Ident → Standing
standing_in [] ident = Never
standing_in (entry ∷ rest) ident = if is_same entry.ident ident then standing_since entry.left else standing_in rest ident

-- an identifier that was issued and has not left
abbrev pub just_issued : Ident → Issued
just_issued ident = record { ident = ident; left = None }

-- the entry, which has left at that place if it is of that identifier
abbrev pub departed_if : Ident → ℕ → Issued → Issued
departed_if ident at entry = record { ident = entry.ident; left = if is_same entry.ident ident then Some at else entry.left }

-- all that was issued, once that identifier has left at that place
abbrev pub departed : List Issued → Ident → ℕ → List Issued
departed issued ident at = map (departed_if ident at) issued

-- the serials are those from a number on, in order
abbrev pub IsNumberedFrom : ℕ → List Issued → Type 0
IsNumberedFrom n [] = Unit {0}
IsNumberedFrom n (entry ∷ rest) = (entry.ident.serial ≡ n) × IsNumberedFrom (suc n) rest
