-- The parts of a line, each read from all of its bytes.
use Rattle.std.specs.Prelude.{ℕ, ◌+◌, ◌-◌, ◌*◌, Bool, false, ◌&&◌, ◌||◌, ◌==◌, nat_lt, nat_le, if◌then◌else◌, ℤ, pos, neg_ℤ, int_le, List, [], ◌∷◌, length, take, drop, reverse, Option, Some, None, codes}
use Rattle.std.specs.Option.{option_map}
use Rattle.std.specs.List.{position, list_all}
use Rattle.std.specs.Str.{bytes_eq}
use Rattle.text_fields.specs.Reading.{◌>>=◌, after}
use Rattle.text_fields.specs.Numbers.{digit, number}

-- ---- cutting

-- what stands before the first such byte, and what follows it
unfoldable pub cut : ℕ → List ℕ → Option (List ℕ × List ℕ)
cut at bytes = option_map (λ i. (take i bytes, drop (i + 1) bytes)) (position (λ b. b == at) bytes)

unfoldable pub trim_front : List ℕ → List ℕ
trim_front [] = []
trim_front (b ∷ bytes) = if b == 32 then trim_front bytes else b ∷ bytes

-- without the spaces at the end
abbrev pub trim_back : List ℕ → List ℕ
trim_back bytes = reverse (trim_front (reverse bytes))

-- without the spaces at both ends
abbrev pub trim : List ℕ → List ℕ
trim bytes = trim_back (trim_front bytes)

-- ---- numbers

abbrev pub immediate_from : Option (List ℕ) → List ℕ → Option ℤ
immediate_from (Some minus) bytes = option_map (λ n. neg_ℤ (pos n)) (number minus)
immediate_from None bytes = option_map pos (number bytes)

-- a number, or a minus and a number
unfoldable pub immediate : List ℕ → Option ℤ
immediate bytes = immediate_from (after (codes "-") bytes) bytes

abbrev pub where_in : ℤ → ℤ → ℤ → Option ℤ
where_in least greatest z = if int_le least z && int_le z greatest then Some z else None

-- an immediate in that range
unfoldable pub immediate_in : ℤ → ℤ → List ℕ → Option ℤ
immediate_in least greatest bytes = immediate bytes >>= where_in least greatest

-- ---- registers

-- a number of one digit or of two, the first of which isn't zero
unfoldable pub short_number : List ℕ → Option ℕ
short_number [] = None
short_number (a ∷ []) = digit 10 a
short_number (a ∷ b ∷ []) = if a == 48 then None else (digit 10 a >>= λ tens. digit 10 b >>= λ ones. Some (10 * tens + ones))
short_number (a ∷ b ∷ c ∷ more) = None

-- x0 to x31; t0 to t2 are x5 to x7, and t3 to t6 x28 to x31; s0 and s1 are x8 and x9, and s2 to s11 x18 to
-- x27; a0 to a7 are x10 to x17
unfoldable pub lettered : ℕ → ℕ → Option ℕ
lettered letter n =
    if letter == 120 && nat_lt n 32 then Some n else
    if letter == 116 && nat_lt n 3 then Some (n + 5) else
    if letter == 116 && nat_lt n 7 then Some (n + 25) else
    if letter == 115 && nat_lt n 2 then Some (n + 8) else
    if letter == 115 && nat_lt n 12 then Some (n + 16) else
    if letter == 97 && nat_lt n 8 then Some (n + 10) else
    None

unfoldable pub numbered : List ℕ → Option ℕ
numbered [] = None
numbered (letter ∷ bytes) = short_number bytes >>= lettered letter

unfoldable pub register : List ℕ → Option ℕ
register bytes =
    if bytes_eq bytes (codes "zero") then Some 0 else
    if bytes_eq bytes (codes "ra") then Some 1 else
    if bytes_eq bytes (codes "sp") then Some 2 else
    if bytes_eq bytes (codes "gp") then Some 3 else
    if bytes_eq bytes (codes "tp") then Some 4 else
    if bytes_eq bytes (codes "fp") then Some 8 else
    numbered bytes

-- what stands before a register in brackets that ends the bytes, and that register
unfoldable pub bracketed : List ℕ → Option (List ℕ × ℕ)
bracketed bytes = do
  front ← cut 40 bytes
  inside ← cut 41 front.1
  r ← register inside.0
  if length inside.1 == 0 then Some (front.0, r) else None

-- ---- names

abbrev pub is_letter : ℕ → Bool
is_letter b = (nat_le 97 b && nat_le b 122) || ((nat_le 65 b && nat_le b 90) || b == 95)

abbrev pub is_name_byte : ℕ → Bool
is_name_byte b = is_letter b || (nat_le 48 b && nat_le b 57)

-- a letter or _, and then letters, digits and _
unfoldable pub is_name : List ℕ → Bool
is_name [] = false
is_name (b ∷ bytes) = is_letter b && list_all is_name_byte bytes
