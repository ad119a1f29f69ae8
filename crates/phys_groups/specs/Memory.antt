-- Memory as one list of bytes, in which numbers are little-endian.
use Rattle.std.specs.Prelude.{◌≡◌, ℕ, ◌+◌, ◌-◌, ◌*◌, ◌/◌, ◌%◌, ◌≤◌, List, [], ◌∷◌, ◌++◌, length, replicate, take, drop, slice_index, slice_set}
use Rattle.cache_ident.specs.declared.names.Frame.{Frame}

-- that many bytes of memory, which are zeros behind the first of them
abbrev pub padded : ℕ → List ℕ → List ℕ
padded size bytes = bytes ++ replicate (size - length bytes) 0

-- memory is made of whole groups of 524,288 bytes, of which there are at most 16. The bytes that were written are whole
-- pages of it, and there is room for all
pub record IsKept (size capacity : ℕ) (bytes : List ℕ) : Type 0 where
  pub groups : size % 524288 ≡ 0
  pub at_most : size ≤ 8388608
  pub pages : length bytes % 4096 ≡ 0
  pub within : length bytes ≤ size
  pub room : size ≤ capacity

-- where the page of a place ends
abbrev pub page_end : ℕ → ℕ
page_end at = 4096 * (at / 4096 + 1)

-- the bytes, with zeros behind them up to the end of the page of a place, where they end before it
abbrev pub reaching : ℕ → List ℕ → List ℕ
reaching at bytes = bytes ++ replicate (page_end at - length bytes) 0

-- the number in the two bytes from a place on
abbrev pub half_at : List ℕ → ℕ → ℕ
half_at bytes at = slice_index bytes at + 256 * slice_index bytes (at + 1)

-- the number in the four bytes from a place on
abbrev pub word_at : List ℕ → ℕ → ℕ
word_at bytes at =
    slice_index bytes at + 256 * slice_index bytes (at + 1) + 65536 * slice_index bytes (at + 2)
    + 16777216 * slice_index bytes (at + 3)

-- a number as two bytes
abbrev pub half_bytes : ℕ → List ℕ
half_bytes value = value % 256 ∷ value / 256 % 256 ∷ []

-- a number as four bytes
abbrev pub word_bytes : ℕ → List ℕ
word_bytes value = value % 256 ∷ value / 256 % 256 ∷ value / 65536 % 256 ∷ value / 16777216 % 256 ∷ []

-- the bytes, where those from a place on are written over, one after another
abbrev pub written : List ℕ → ℕ → List ℕ → List ℕ
written bytes at [] = bytes
written bytes at (b ∷ rest) = written (slice_set bytes at b) (at + 1) rest

-- the frame is in memory
abbrev pub HasFrame : List ℕ → Frame → Type 0
HasFrame bytes frame = 4096 * frame.0 + 4096 ≤ length bytes

-- the bytes of a frame
abbrev pub page_at : List ℕ → Frame → List ℕ
page_at bytes frame = take 4096 (drop (4096 * frame.0) bytes)

-- memory with a page written over a frame
abbrev pub with_page : List ℕ → Frame → List ℕ → List ℕ
with_page bytes frame page = take (4096 * frame.0) bytes ++ page ++ drop (4096 * frame.0 + 4096) bytes
