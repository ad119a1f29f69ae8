-- The bits of words.
use Rattle.std.specs.Prelude.{◌≡◌, ℕ, ◌/◌, ◌%◌, Bool, ◌==◌, nat_lt, List, slice_index}
use Rattle.std.specs.Int.{bit_at}

-- whether the bit at a place is one
unfoldable pub has_bit : ℕ → ℕ → Bool
has_bit word place = bit_at word place == 1

-- whether the number's bit is one, where each word has the bits of 64 numbers
unfoldable pub bit_in : List ℕ → ℕ → Bool
bit_in words number = has_bit (slice_index words (number / 64)) (number % 64)

-- the ones of the words above are at the places of the words that aren't zero
pub record IsMarked (words marks : List ℕ) : Type 0 where
  pub at : (place : ℕ) → bit_in marks place ≡ nat_lt 0 (slice_index words place)
