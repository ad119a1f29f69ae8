-- What an address of an executable's part reads.
use Rattle.std.specs.Prelude.{◌≡◌, ℕ, ◌+◌, ◌<◌, ◌≤◌, ◌^◌, List, Some, slice_index}
use Rattle.cache_ident.specs.declared.names.SpaceNo.{SpaceNo}
use Rattle.phys_groups.specs.declared.rows.Row.{Row}
use Rattle.phys_groups.specs.Translation.{row_of, page_of, place_in}
use Rattle.image_decls.specs.elf_image.specs.declared.images.Part.{Part}
use Rattle.image_decls.specs.flat_state.specs.State.{FlatState}

-- each of these numbers is a byte
abbrev pub IsBytes : List ℕ → Type 0
IsBytes bytes = (i : ℕ) → slice_index bytes i < 2 ^ 8

-- Address k of a part, counted from 0. Its page has a row with the part's flags, and in the row's frame memory has the
-- byte: that of the file where the part has so many from there, and 0 behind these.
pub record IsLoaded (bytes : List ℕ) (space : SpaceNo) (s : FlatState) (part : Part) (k : ℕ) : Type 0 where
  pub row : Row
  pub found : row_of s.rows space (page_of (part.vaddr + k)) ≡ Some row
  pub flags : row.flags ≡ part.flags
  pub from_file : k < part.length → slice_index s.memory (place_in row.frame (part.vaddr + k)) ≡ slice_index bytes (part.offset + k)
  pub behind : part.length ≤ k → slice_index s.memory (place_in row.frame (part.vaddr + k)) ≡ 0
