-- The list of signal rows by frame, and what a row adds to it or takes from it.
use Rattle.std.specs.Prelude.{◌≡◌, ◌↔◌, ◌⊎◌, ℕ, true, List, Contains}
use Rattle.std.specs.Ordering.{nat_cmp}
use Rattle.std.specs.declared.cmp.Ordering.{Ordering}
use Rattle.cache_ident.specs.declared.names.Frame.{Frame}
use Rattle.cache_ident.specs.declared.names.Name.{Name}
use Rattle.cache_ident.specs.contracts.names.NameOrd.TheImpl as names
use Rattle.phys_groups.specs.declared.rows.Row.{Row}
use Rattle.signal_pages.specs.Signals.{is_signal_row_of}
use Rattle.sorted_list.specs.Sorted.{by_parts}

-- names with their stamps in order of these
abbrev pub stamped_cmp : ℕ × Name → ℕ × Name → Ordering
stamped_cmp = by_parts nat_cmp (names.ghosts).cmp

-- the entry has that stamp and name, under the frame of the row, which is a signal row
abbrev pub IsEntryOf : Row → ℕ × Name → Frame × (ℕ × Name) → Type 0
IsEntryOf row stamped entry = (is_signal_row_of entry.0 row ≡ true) × (entry.1 ≡ stamped)

-- the new list has the row's entry too, if it is a signal row, and nothing else that the old one hadn't
abbrev pub IsListed : List (Frame × (ℕ × Name)) → List (Frame × (ℕ × Name)) → Row → ℕ × Name → Type 0
IsListed old new row stamped = (entry : Frame × (ℕ × Name)) → Contains new entry ↔ (IsEntryOf row stamped entry ⊎ Contains old entry)

-- the new list has all that the old one had but the row's entry
abbrev pub IsUnlisted : List (Frame × (ℕ × Name)) → List (Frame × (ℕ × Name)) → Row → ℕ × Name → Type 0
IsUnlisted old new row stamped = (entry : Frame × (ℕ × Name)) → Contains new entry ↔ (Contains old entry × (IsEntryOf row stamped entry → ⊥))
