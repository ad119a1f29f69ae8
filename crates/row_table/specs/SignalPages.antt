-- The index of signal rows by frame: the pages of each frame's signal rows, in declared order.
use Rattle.std.specs.Prelude.{◌≡◌, Bool, true, not, ◌&&◌, ◌==◌, is_some, if◌then◌else◌, List, [], ◌∷◌, ◌++◌, map, filter, Option, IsSome}
use Rattle.std.specs.Option.{option_map_or}
use Rattle.std.specs.Ordering.{nat_cmp}
use Rattle.std.specs.Map.{lookup}
use Rattle.std.specs.BTreeMap.{is_at}
use Rattle.arrayvec.specs.ArrayVec.{ArrayVec}
use Rattle.cache_ident.specs.declared.names.Frame.{Frame}
use Rattle.phys_groups.specs.declared.rows.Row.{Row}
use Rattle.signal_pages.specs.Signals.{is_signal_row_of}
use Rattle.row_table.specs.declared.pages.PageKey.{PageKey}
use Rattle.row_table.specs.declared.signals.SignalIndex.{SignalIndex}
use Rattle.row_table.specs.Pages.{key_of}

-- what the index has for a frame, if anything
abbrev pub list_in : SignalIndex → Frame → Option (ArrayVec PageKey)
list_in index frame = lookup (is_at (nat_cmp frame.0)) index.pages.entries

-- the pages that the index has for a frame
abbrev pub pages_in : SignalIndex → Frame → List PageKey
pages_in index frame = option_map_or (λ pages. pages.items) (list_in index frame) []

-- each frame has the pages of its signal rows, in declared order
abbrev pub IsSignalIndexOf : List Row → SignalIndex → Type 0
IsSignalIndexOf rows index = (frame : Frame) → pages_in index frame ≡ map key_of (filter (is_signal_row_of frame) rows)

-- if it is a signal row, its frame has a list
abbrev pub HasList : SignalIndex → Row → Type 0
HasList index row = is_some row.receiver ≡ true → IsSome (list_in index row.frame)

-- the two are one page
abbrev pub is_page : PageKey → PageKey → Bool
is_page a b = (a.space == b.space) && (a.vpn == b.vpn)

-- the pages but for that one
abbrev pub other_pages : PageKey → List PageKey → List PageKey
other_pages page pages = filter (λ other. not (is_page other page)) pages

-- if it is a signal row, its page is the last of its frame
abbrev pub IsListed : SignalIndex → SignalIndex → Row → Type 0
IsListed old new row = (frame : Frame) → pages_in new frame ≡ pages_in old frame ++ (if is_signal_row_of frame row then key_of row ∷ [] else [])

-- if it is a signal row, its page is no longer among those of its frame
abbrev pub IsUnlisted : SignalIndex → SignalIndex → Row → Type 0
IsUnlisted old new row = (frame : Frame) → pages_in new frame ≡ (if is_signal_row_of frame row then other_pages (key_of row) (pages_in old frame) else pages_in old frame)
