-- What is told of many reads and of many writes.
use Rattle.std.specs.Prelude.{◌<◌, ℕ, List, Option, Result, Err, ⊤, length, take}
use Rattle.std.specs.Io.KnownBytes.{Appends, Consumes}
use Rattle.byte_ports.specs.declared.whole.ReadError.{ReadError}
use Rattle.byte_ports.specs.declared.whole.ReadError.TheVariants.{TooLong, Failed}

-- P where the answer is that the source was too long
abbrev pub OnTooLong : {X : Type 0} → Result X ReadError → Type 0 → Type 0
OnTooLong (Err TooLong) P = P
OnTooLong _ P = ⊤

-- P where the answer is that a read failed
abbrev pub OnFailed : {X : Type 0} → Result X ReadError → Type 0 → Type 0
OnFailed (Err Failed) P = P
OnFailed _ P = ⊤

-- P where the answer isn't that a read failed
abbrev pub UnlessFailed : {X : Type 0} → Result X ReadError → Type 0 → Type 0
UnlessFailed (Err Failed) P = ⊤
UnlessFailed _ P = P

-- more than `limit` bytes were taken
abbrev pub TakesMore : Option (List ℕ) → Option (List ℕ) → ℕ → Type 0
TakesMore old new limit = (bytes : List ℕ) × Consumes old new bytes × (limit < length bytes)

-- a front of the text was appended, and not the whole text
abbrev pub AppendsFront : Option (List ℕ) → Option (List ℕ) → List ℕ → Type 0
AppendsFront old new text = (n : ℕ) × (n < length text) × Appends old new (take n text)
