-- What comes from a source, and what is told of it before anything is written.
use Rattle.std.specs.Prelude.{◌≡◌, ℕ, ◌<◌, ◌≤◌, List, length, Option, IfSome, Result, Err}
use Rattle.std.specs.Io.KnownBytes.{IsAtEnd}
use Rattle.byte_ports.specs.Whole.{TakesMore}
use Rattle.due_text.specs.declared.input.Input.{Input}
use Rattle.due_text.specs.declared.input.Input.TheVariants.{Whole, TooLong}
use Rattle.due_text.specs.declared.input.NoText.{NoText}
use Rattle.due_text.specs.declared.input.NoText.TheVariants.{ReadFault}

-- how many bytes an input may have
abbrev pub most_bytes : ℕ
most_bytes = 4194304

-- the input is what the source has told, which it empties, and not more than an input may have
abbrev pub IsWhole : Option (List ℕ) → Option (List ℕ) → List ℕ → Type 0
IsWhole bytes left input = IfSome bytes (λ told. input ≡ told) × IsAtEnd left × (length input ≤ most_bytes)

-- the source has more than an input may have, and more than that was taken
abbrev pub IsTooLong : Option (List ℕ) → Option (List ℕ) → Type 0
IsTooLong bytes left = IfSome bytes (λ told. most_bytes < length told) × TakesMore bytes left most_bytes

-- that came from a source which had these bytes and has those left
abbrev pub IsInput : Option (List ℕ) → Option (List ℕ) → Input → Type 0
IsInput bytes left (Whole input) = IsWhole bytes left input.items
IsInput bytes left TooLong = IsTooLong bytes left

-- P where the source failed
abbrev pub OnFailed : {X : Type 0} → Result X NoText → Type 0 → Type 0
OnFailed (Err ReadFault) P = P
OnFailed _ P = Unit {0}

-- P where it didn't
abbrev pub UnlessFailed : {X : Type 0} → Result X NoText → Type 0 → Type 0
UnlessFailed (Err ReadFault) P = Unit {0}
UnlessFailed _ P = P
