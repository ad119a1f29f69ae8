-- What the memory unit reads, stores and marks, as its pages have it.
use Rattle.std.proofs.Common.{◌≡◌, ℕ, ◌+◌, ◌/◌, ◌%◌, ◌≤◌, Bool, List, [], length, map, Some, None, sym, ◌∙◌, ap, ap₂, arith}
use Rattle.std.specs.Option.{is_some, option_map}
use Rattle.cache_ident.specs.declared.names.SpaceNo.{SpaceNo}
use Rattle.cache_ident.specs.declared.names.Frame.{Frame}
use Rattle.phys_groups.specs.declared.rows.Row.{Row}
use Rattle.phys_groups.specs.Translation.{place_in}
use Rattle.rv32_exec.specs.declared.statuses.Access.{Access}
use Rattle.rv32_exec.specs.declared.statuses.Access.TheVariants.{Write}
use Rattle.rv32_exec.specs.declared.spaces.Width.{Width}
use Rattle.rv32_exec.specs.declared.spaces.Width.TheVariants.{Byte, Half, Word}
use Rattle.rv32_exec.specs.Pages.{is_write, number_at, put_bytes, read_through, size_of, stored, touched_at, translates}
use Rattle.flat_rules.specs.flat_state.specs.State.{FlatState}
use Rattle.flat_rules.specs.flat_state.specs.Translation.{wants}
use Rattle.flat_rules.specs.flat_state.specs.Pages.{page_of, pages_of}
use Rattle.flat_rules.specs.flat_state.specs.Rest.{Rest}
use Rattle.flat_rules.specs.flat_state.proofs.Found.{found-mapped}
use Rattle.flat_rules.specs.flat_state.proofs.Keeping.{rest-put_bytes}
use Rattle.flat_rules.specs.flat_state.proofs.Storing.{fits, read-none, read-pages, stored-none, stored-pages}
use Rattle.flat_rules.specs.flat_state.proofs.Translating.{translation-pages}
use Rattle.phys_groups.specs.Rows.{marked}
use Rattle.flat_rules.specs.Readings.{IsInMemory}
use Rattle.flat_mmu.specs.Seen.{Seen, beside, pages_seen, rest_seen, seen, seen_row}
use Rattle.flat_mmu.proofs.Marking.{mark-pages, rest-marked}

pub read_seen : (m : Seen) (access : Access) (va : ℕ) (width : Width) (row : Row) → va % size_of width ≡ 0 → seen_row m access va ≡ Some row → Some (number_at width m.memory (place_in row.frame va)) ≡ read_through access (pages_seen m) va width
read_seen m access va width row aligned found = sym (read-pages m.rights m.space access m.memory m.rows va width row aligned found)

pub unread_seen : (m : Seen) (access : Access) (va : ℕ) (width : Width) → seen_row m access va ≡ None → None ≡ read_through access (pages_seen m) va width
unread_seen m access va width lost = sym (read-none m.rights m.space access m.memory m.rows va width lost)

pub translates_seen : (m : Seen) (access : Access) (va : ℕ) → translates (pages_seen m) va access ≡ is_some (option_map (page_of m.rights m.memory) (seen_row m access va))
unfolding translates
translates_seen m access va = ap is_some (translation-pages m.rights m.memory m.rows m.space va access)

pub stored_seen : (m : Seen) (va : ℕ) (width : Width) (value : ℕ) (row : Row) → va % size_of width ≡ 0 → seen_row m Write va ≡ Some row → pages_seen (record m { memory = put_bytes (size_of width) m.memory (place_in row.frame va) value }) ≡ stored (pages_seen m) va width value
stored_seen m va width value row aligned found = sym (stored-pages m.rights m.space m.memory m.rows va width value row aligned found)

pub unstored_seen : (m : Seen) (va : ℕ) (width : Width) (value : ℕ) → seen_row m Write va ≡ None → pages_seen m ≡ stored (pages_seen m) va width value
unstored_seen m va width value lost = sym (stored-none m.rights m.space m.memory m.rows va width value lost)

pub kept_seen : (m : Seen) (va : ℕ) (width : Width) (value : ℕ) (row : Row) → va % size_of width ≡ 0 → seen_row m Write va ≡ Some row → rest_seen (record m { memory = put_bytes (size_of width) m.memory (place_in row.frame va) value }) ≡ rest_seen m
kept_seen m va width value row aligned found = rest-put_bytes m.rights m.rows m.space (size_of width) m.memory row.frame (va % 4096) value (fits width va aligned) (found-mapped m.rights m.rows (wants Write) m.space va row found)

pub marked_seen : (m : Seen) (va : ℕ) (access : Access) → pages_seen (record m { rows = map (marked m.space (va / 4096) (is_write access)) m.rows }) ≡ touched_at (pages_seen m) va access
unfolding touched_at
marked_seen m va access = mark-pages m.space (va / 4096) m.rights m.memory access m.rows

pub marks_keep : (m : Seen) (va : ℕ) (access : Access) → rest_seen (record m { rows = map (marked m.space (va / 4096) (is_write access)) m.rows }) ≡ rest_seen m
marks_keep m va access = rest-marked m.space (va / 4096) m.rights m.memory (is_write access) m.rows

-- the place of an aligned access lies in the frame, and is aligned
pub place_within : (memory : List ℕ) (frame : Frame) (va : ℕ) (width : Width) (at : ℕ) → va % size_of width ≡ 0 → IsInMemory memory frame → at ≡ place_in frame va → at + size_of width ≤ length memory
place_within memory frame va width at aligned inside place = omega (arith, place, inside.within, fits width va aligned)

pub place_aligned : (frame : Frame) (va : ℕ) (width : Width) (at : ℕ) → va % size_of width ≡ 0 → at ≡ place_in frame va → at % size_of width ≡ 0
place_aligned frame va Byte at aligned place = omega arith
place_aligned frame va Half at aligned place = omega (arith, place, aligned)
place_aligned frame va Word at aligned place = omega (arith, place, aligned)

-- two things stay where each of them stays
pub both_stay : {X Y : Type 0} {x' x : X} {y' y : Y} → x' ≡ x → y' ≡ y → ◌≡◌ {A = X × Y} (x', y') (x, y)
both_stay {X} {Y} first second = ap₂ (λ (a : X) (b : Y). (a, b)) first second

-- ---- the same of a state

module _ (s u : FlatState) (space : SpaceNo) where
  module _ (va : ℕ) (width : Width) (value : ℕ) (row : Row) (at : ℕ) (aligned : va % size_of width ≡ 0) (found : seen_row (seen s space) Write va ≡ Some row) (place : at ≡ place_in row.frame va) (after : u ≡ record s { memory = put_bytes (size_of width) s.memory at value }) where
    there : u ≡ record s { memory = put_bytes (size_of width) s.memory (place_in row.frame va) value }
    there = after ∙ ap (λ (n : ℕ). record s { memory = put_bytes (size_of width) s.memory n value }) place

    pub store_pages : pages_of u space ≡ stored (pages_of s space) va width value
    store_pages = ap (λ (v : FlatState). pages_of v space) there ∙ stored_seen (seen s space) va width value row aligned found

    pub store_keeps : (name : ℕ) → beside u space name ≡ beside s space name
    store_keeps name =
        ap (λ (v : FlatState). beside v space name) there
        ∙ ap (λ (r : Rest). record { rest = r; others = record s { memory = []; rows = [] }; borrowed = name }) (kept_seen (seen s space) va width value row aligned found)

  module _ (va : ℕ) (access : Access) (w : Bool) (is : w ≡ is_write access) (after : u ≡ record s { rows = map (marked space (va / 4096) w) s.rows }) where
    marks : u ≡ record s { rows = map (marked space (va / 4096) (is_write access)) s.rows }
    marks = after ∙ ap (λ (b : Bool). record s { rows = map (marked space (va / 4096) b) s.rows }) is

    pub touch_pages : pages_of u space ≡ touched_at (pages_of s space) va access
    touch_pages = ap (λ (v : FlatState). pages_of v space) marks ∙ marked_seen (seen s space) va access

    pub touch_keeps : (name : ℕ) → beside u space name ≡ beside s space name
    touch_keeps name =
        ap (λ (v : FlatState). beside v space name) marks
        ∙ ap (λ (r : Rest). record { rest = r; others = record s { memory = []; rows = [] }; borrowed = name }) (marks_keep (seen s space) va access)
