-- What an executable declares: the rows of its parts, page by page, with frames that follow one another; the words that its
-- parts fill; and a thread that begins at its entry.
use Rattle.std.specs.Prelude.{ℕ, zero, suc, ◌+◌, ◌-◌, ◌*◌, ◌/◌, ◌%◌, ◌^◌, ◌<◌, ◌≤◌, ◌&&◌, nat_le, nat_lt, if◌then◌else◌, List, [], ◌∷◌, ◌++◌, slice_index, None}
use Rattle.cache_ident.specs.declared.names.SpaceNo.{SpaceNo}
use Rattle.cache_ident.specs.declared.names.ThreadNo.{ThreadNo}
use Rattle.flat_state.specs.declared.events.Decl.{Decl}
use Rattle.flat_state.specs.declared.events.Decl.TheVariants as decls
use Rattle.elf_image.specs.declared.images.Part.{Part}
use Rattle.elf_image.specs.Elf.{Executable}

-- ---- pages

abbrev pub last_address : Part → ℕ
last_address part = part.vaddr + part.size - 1

abbrev pub first_page : Part → ℕ
first_page part = part.vaddr / 4096

abbrev pub page_count : Part → ℕ
page_count part = last_address part / 4096 - first_page part + 1

-- the row of a part's page, counted from 0, where the first page is in that frame
abbrev pub row_at : SpaceNo → ℕ → Part → ℕ → Decl
row_at space frame part page = decls.Map space (record { 0 = first_page part + page }) (record { 0 = frame + page }) part.flags None

-- so many rows of a part
unfoldable pub first_rows : SpaceNo → ℕ → Part → ℕ → List Decl
first_rows space frame part zero = []
first_rows space frame part (suc n) = first_rows space frame part n ++ row_at space frame part n ∷ []

-- all rows of a part
abbrev pub part_rows : SpaceNo → ℕ → Part → List Decl
part_rows space frame part = first_rows space frame part (page_count part)

-- What each part declares by its first frame. The frames are counted on through all parts.
unfoldable pub each : (ℕ → Part → List Decl) → ℕ → List Part → List Decl
each declares frame [] = []
each declares frame (part ∷ parts) = declares frame part ++ each declares (frame + page_count part) parts

-- ---- words

-- The byte at an address: the part's own from the file, and 0 elsewhere.
abbrev pub byte_at : List ℕ → Part → ℕ → ℕ
byte_at bytes part address = if nat_le part.vaddr address && nat_lt (address - part.vaddr) part.length then slice_index bytes (part.offset + (address - part.vaddr)) else 0

-- the word of the four bytes from an address on
abbrev pub word_at : List ℕ → Part → ℕ → ℕ
word_at bytes part address =
    byte_at bytes part address + 256 * byte_at bytes part (address + 1) + 65536 * byte_at bytes part (address + 2)
    + 16777216 * byte_at bytes part (address + 3)

-- a word of the part's pages, whose address is divisible by 4
abbrev pub word_decl : List ℕ → ℕ → Part → ℕ → Decl
word_decl bytes frame part address = decls.Word (record { 0 = frame + (address / 4096 - first_page part) }) (address % 4096) (word_at bytes part address)

-- the words that have a byte of the part
abbrev pub word_count : Part → ℕ
word_count part = last_address part / 4 - part.vaddr / 4 + 1

-- so many of them
unfoldable pub first_words : List ℕ → ℕ → Part → ℕ → List Decl
first_words bytes frame part zero = []
first_words bytes frame part (suc n) = first_words bytes frame part n ++ word_decl bytes frame part (4 * (part.vaddr / 4 + n)) ∷ []

-- all words of a part
abbrev pub part_words : List ℕ → ℕ → Part → List Decl
part_words bytes frame part = first_words bytes frame part (word_count part)

-- ---- the whole

-- the thread begins at the entry, with the lowest priority and registers of zeros
unfoldable pub declarations : List ℕ → SpaceNo → ℕ → ThreadNo → Executable → List Decl
declarations bytes space frame thread image =
    each (part_rows space) frame image.parts ++ each (part_words bytes) frame image.parts ++ decls.Thread thread space image.entry 0 0 0 ∷ []

-- A part has addresses, and they are below 2^32.
pub record HasAddresses (part : Part) : Type 0 where
  pub some : 0 < part.size
  pub in_space : part.vaddr + part.size ≤ 2 ^ 32
