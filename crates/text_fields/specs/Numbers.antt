-- What a field writes: a number of 32 bits.
use Rattle.std.specs.Prelude.{ℕ, ◌+◌, ◌-◌, ◌*◌, ◌^◌, ◌&&◌, nat_lt, nat_le, if◌then◌else◌, List, [], ◌∷◌, length, Option, Some, None, codes}
use Rattle.std.specs.Int.{w32, to_be_bytes}
use Rattle.hex.specs.Hex.{encode_lower}
use Rattle.text_fields.specs.Reading.{◌>>=◌, after}

-- the value of a digit of either case, before it is held against the base
abbrev pub digit_value : ℕ → Option ℕ
digit_value b =
    if nat_le 48 b && nat_le b 57 then Some (b - 48) else
    if nat_le 97 b && nat_le b 102 then Some (b - 87) else
    if nat_le 65 b && nat_le b 70 then Some (b - 55) else
    None

unfoldable pub digit : ℕ → ℕ → Option ℕ
digit base b = do
  d ← digit_value b
  if nat_lt d base then Some d else None

-- the number that the digits write behind those of n, of 32 bits
unfoldable pub digits_from : ℕ → ℕ → List ℕ → Option ℕ
digits_from base n [] = Some n
digits_from base n (b ∷ bytes) = digit base b >>= λ d. if nat_lt (base * n + d) (2 ^ 32) then digits_from base (base * n + d) bytes else None

-- as many digits as that, in that base
unfoldable pub digits : ℕ → ℕ → ℕ → List ℕ → Option ℕ
digits base least most bytes = if nat_le least (length bytes) && nat_le (length bytes) most then digits_from base 0 bytes else None

abbrev pub number_from : Option (List ℕ) → List ℕ → Option ℕ
number_from (Some hexadecimal) bytes = digits 16 1 8 hexadecimal
number_from None bytes = digits 10 1 10 bytes

-- one to ten decimal digits, or 0x and one to eight hexadecimal ones
unfoldable pub number : List ℕ → Option ℕ
number bytes = number_from (after (codes "0x") bytes) bytes

-- exactly eight hexadecimal digits
unfoldable pub word : List ℕ → Option ℕ
word bytes = digits 16 8 8 bytes

-- .. as they are written, in lower case
unfoldable pub word_text : ℕ → List ℕ
word_text value = encode_lower (to_be_bytes w32 value)
