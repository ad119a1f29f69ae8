-- What a step keeps beside the pages of its space.
use Rattle.std.specs.Prelude.{ℕ, Bool, false, ◌==◌, if◌then◌else◌, ◌&&◌, List, map, length, Option, Some, None}
use Rattle.std.specs.List.{list_any}
use Rattle.cache_ident.specs.declared.names.Frame.{Frame}
use Rattle.cache_ident.specs.declared.names.SpaceNo.{SpaceNo}
use Rattle.phys_groups.specs.declared.rows.Row.{Row}
use Rattle.phys_groups.specs.Memory.{page_at}
use Rattle.flat_state.specs.Pages.{is_in}

-- the row without its bits, where it is one of the space
abbrev pub unmarked : SpaceNo → Row → Row
unmarked space row = if is_in space row then record row { referenced = false; modified = false } else row

-- is the frame behind some page of the space?
abbrev pub is_mapped : List Row → SpaceNo → Frame → Bool
is_mapped rows space frame = list_any (λ row. is_in space row && (row.frame.0 == frame.0)) rows

-- a frame's bytes, where it is behind no page of the space
abbrev pub unmapped_page : List ℕ → List Row → SpaceNo → Frame → Option (List ℕ)
unmapped_page memory rows space frame = if is_mapped rows space frame then None else Some (page_at memory frame)

-- all but the pages: the space and its owner's rights, the rows but for the bits of the space's own, the size of memory,
-- and the frames behind no page of the space
pub record Rest : Type 0 where
  pub rights : List (Bool × Bool)
  pub space : SpaceNo
  pub rows : List Row
  pub size : ℕ
  pub frames : Frame → Option (List ℕ)

abbrev pub rest_of : List (Bool × Bool) → List ℕ → List Row → SpaceNo → Rest
rest_of rights memory rows space =
    record {
      rights = rights;
      space = space;
      rows = map (unmarked space) rows;
      size = length memory;
      frames = unmapped_page memory rows space;
    }
