-- A text as lines, and a line as fields.
use Rattle.std.specs.Prelude.{ℕ, Bool, not, ◌&&◌, ◌||◌, ◌==◌, nat_le, nat_lt, if◌then◌else◌, List, [], ◌∷◌, length, reverse, Option, Some, None}
use Rattle.std.specs.List.{filter, list_all, take_while}
use Rattle.text_fields.specs.Reading.{◌>>=◌, first_of}

-- the byte stands before the first piece
abbrev pub longer : ℕ → List (List ℕ) → List (List ℕ)
longer b [] = (b ∷ []) ∷ []
longer b (p ∷ ps) = (b ∷ p) ∷ ps

-- what stands before, between and behind the bytes that divide
unfoldable pub pieces : (ℕ → Bool) → List ℕ → List (List ℕ)
pieces divides [] = [] ∷ []
pieces divides (b ∷ bytes) = if divides b then [] ∷ pieces divides bytes else longer b (pieces divides bytes)

-- ---- lines

abbrev pub is_feed : ℕ → Bool
is_feed b = b == 10

abbrev pub behind_return : List ℕ → List ℕ
behind_return [] = []
behind_return (b ∷ bytes) = if b == 13 then bytes else b ∷ bytes

-- without the carriage return at the end, if there is one
unfoldable pub without_return : List ℕ → List ℕ
without_return line = reverse (behind_return (reverse line))

-- each line but the last was ended by a line feed, and a carriage return just before that doesn't count
abbrev pub ended : List (List ℕ) → List (List ℕ)
ended [] = []
ended (line ∷ []) = line ∷ []
ended (line ∷ next ∷ more) = without_return line ∷ ended (next ∷ more)

-- The lines of a text: one more than it has line feeds. What stands behind the last line feed is the last line,
-- and mostly empty.
unfoldable pub lines : List ℕ → List (List ℕ)
lines bytes = ended (pieces is_feed bytes)

-- ---- a line

-- what stands before the first #
unfoldable pub without_comment : List ℕ → List ℕ
without_comment line = take_while (λ b. not (b == 35)) line

-- a printing character of ASCII, a space or a tab
abbrev pub is_plain : ℕ → Bool
is_plain b = (nat_le 32 b && nat_le b 126) || b == 9

abbrev pub are_plain : List ℕ → Bool
are_plain bytes = list_all is_plain bytes

-- ---- fields

-- a space or a tab
abbrev pub is_space : ℕ → Bool
is_space b = (b == 32) || (b == 9)

abbrev pub is_some : List ℕ → Bool
is_some bytes = nat_lt 0 (length bytes)

-- what one or more spaces divide
unfoldable pub fields : List ℕ → List (List ℕ)
fields bytes = filter is_some (pieces is_space bytes)

-- from the first byte on that is no space
unfoldable pub skip_spaces : List ℕ → List ℕ
skip_spaces [] = []
skip_spaces (b ∷ bytes) = if is_space b then skip_spaces bytes else b ∷ bytes

-- the only field of a line that has one
unfoldable pub one : List (List ℕ) → Option (List ℕ)
one line = do
  a ← first_of line
  if length a.1 == 0 then Some a.0 else None

-- the fields of a line that has two; and so on
unfoldable pub two : List (List ℕ) → Option (List ℕ × List ℕ)
two line = do
  a ← first_of line
  b ← one a.1
  Some (a.0, b)

unfoldable pub three : List (List ℕ) → Option (List ℕ × List ℕ × List ℕ)
three line = do
  a ← first_of line
  b ← two a.1
  Some (a.0, b.0, b.1)

unfoldable pub four : List (List ℕ) → Option (List ℕ × List ℕ × List ℕ × List ℕ)
four line = do
  a ← first_of line
  b ← three a.1
  Some (a.0, b.0, b.1, b.2)
