-- The rows of a space as the pages that its threads step in, and what a step leaves in them.
use Rattle.std.specs.Prelude.{ℕ, Bool, ◌&&◌, ◌==◌, if◌then◌else◌, List, [], ◌∷◌, map, filter, find, Option, Some, None}
use Rattle.cache_ident.specs.declared.names.SpaceNo.{SpaceNo}
use Rattle.phys_groups.specs.declared.rows.Row.{Row}
use Rattle.phys_groups.specs.Memory.{page_at, with_page}
use Rattle.phys_groups.specs.Translation.{is_fit}
use Rattle.rv32_exec.specs.Pages.{Page}
use Rattle.flat_state.specs.State.{FlatState}
use Rattle.flat_state.specs.Translation.{rights_of}

-- A row as a page. Nothing may be done with a page whose row isn't fit. Its marks are the row's bits.
abbrev pub page_of : List (Bool × Bool) → List ℕ → Row → Page
page_of rights memory row =
    record {
      number = row.vpn.0;
      frame = row.frame.0;
      readable = row.flags.r && is_fit rights row;
      writable = row.flags.w && is_fit rights row;
      executable = row.flags.x && is_fit rights row;
      bytes = page_at memory row.frame;
      touched = row.referenced;
      written = row.modified;
    }

abbrev pub is_in : SpaceNo → Row → Bool
is_in space row = row.space.0 == space.0

-- the pages of a space, whose owner has those rights
abbrev pub pages_in : List (Bool × Bool) → List ℕ → List Row → SpaceNo → List Page
pages_in rights memory rows space = map (page_of rights memory) (filter (is_in space) rows)

abbrev pub pages_of : FlatState → SpaceNo → List Page
pages_of s space = pages_in (rights_of s space) s.memory s.rows space

-- memory, when the bytes of each page stand in its frame
abbrev pub with_pages : List ℕ → List Page → List ℕ
with_pages memory [] = memory
with_pages memory (p ∷ ps) = with_pages (with_page memory (record { 0 = p.frame }) p.bytes) ps

abbrev pub with_marks_of : Option Page → Row → Row
with_marks_of None row = row
with_marks_of (Some p) row = record row { referenced = p.touched; modified = p.written }

-- a row, when the marks of its page are its bits
abbrev pub with_marks : SpaceNo → List Page → Row → Row
with_marks space ps row = if is_in space row then with_marks_of (find (λ p. p.number == row.vpn.0) ps) row else row
