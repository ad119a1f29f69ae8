-- Through which row an access goes, and what is missing where it goes through none.
use Rattle.std.specs.Prelude.{ℕ, ◌+◌, ◌*◌, ◌/◌, ◌%◌, Bool, false, not, ◌&&◌, ◌||◌, ◌==◌, if◌then◌else◌, List, Option, Some, None, find, filter, slice_index_or}
use Rattle.cache_ident.specs.declared.names.Frame.{Frame}
use Rattle.cache_ident.specs.declared.names.SpaceNo.{SpaceNo}
use Rattle.phys_groups.specs.declared.rows.Flags.{Flags}
use Rattle.phys_groups.specs.declared.rows.Row.{Row}

-- the read bit and the write bit of a group
abbrev pub right_on : List (Bool × Bool) → ℕ → Bool × Bool
right_on rights group = slice_index_or rights group (false, false)

-- if the first, then the second
abbrev pub implies : Bool → Bool → Bool
implies a b = not a || b

-- r and x ask for the read bit of the frame's group, and w for its write bit
abbrev pub covers : List (Bool × Bool) → Frame → Flags → Bool
covers rights frame flags =
    let right = right_on rights (frame.0 / 128) in
    implies (flags.r || flags.x) right.0 && implies flags.w right.1

-- the rights, of the kernel that owns the row's space, cover its flags on its frame
abbrev pub is_fit : List (Bool × Bool) → Row → Bool
is_fit rights row = covers rights row.frame row.flags

-- the row is that of the page of the space
abbrev pub is_row_of : SpaceNo → ℕ → Row → Bool
is_row_of space vpn row = (row.space.0 == space.0) && (row.vpn.0 == vpn)

-- the row of a page of a space
abbrev pub row_of : List Row → SpaceNo → ℕ → Option Row
row_of rows space vpn = find (is_row_of space vpn) rows

-- all rows but that of a page of a space
abbrev pub without : SpaceNo → ℕ → List Row → List Row
without space vpn rows = filter (λ row. not (is_row_of space vpn row)) rows

-- the page of an address
abbrev pub page_of : ℕ → ℕ
page_of va = va / 4096

-- the place of an address whose page is mapped to that frame
abbrev pub place_in : Frame → ℕ → ℕ
place_in frame va = 4096 * frame.0 + va % 4096

-- what a fetch, a load and a store ask of a row's flags
abbrev pub allows_fetch : Flags → Bool
allows_fetch flags = flags.x

abbrev pub allows_read : Flags → Bool
allows_read flags = flags.r

abbrev pub allows_write : Flags → Bool
allows_write flags = flags.w

-- the row that an access goes through, or the first thing that it lacks
pub data Translated : Type 0 where
  through : Row → Translated
  no_row : Translated
  no_flag : Translated
  no_right : Translated

-- what comes of an access whose page has that row, if any
abbrev pub judged : List (Bool × Bool) → (Flags → Bool) → Option Row → Translated
judged rights allows None = no_row
judged rights allows (Some row) = if not (allows row.flags) then no_flag
    else (if not (is_fit rights row) then no_right else through row)

-- what comes of an access at an address of a space, whose owner has those rights
abbrev pub translated : List (Bool × Bool) → List Row → (Flags → Bool) → SpaceNo → ℕ → Translated
translated rights rows allows space va = judged rights allows (row_of rows space (page_of va))
