-- What a mark makes of the rows, and what holds of them.
use Rattle.std.specs.Prelude.{◌≤◌, Bool, List, count_by}
use Rattle.cache_ident.specs.declared.names.Frame.{Frame}
use Rattle.phys_groups.specs.declared.rows.Row.{Row}
use Rattle.phys_groups.specs.Rows.{marked}
use Rattle.signal_pages.specs.Signals.{is_signal_row_of}
use Rattle.row_table.specs.declared.pages.PageKey.{PageKey}
use Rattle.row_table.specs.Stamps.{HaveOneRow}

-- a row once a step or a store has gone through the row of that page of a space
abbrev pub marked_on : PageKey → Bool → Row → Row
marked_on page = marked (record { 0 = page.space }) page.vpn

-- no page has two rows, and no frame more than four signal rows
pub record IsProper (rows : List Row) : Type 0 where
  pub one_row : HaveOneRow rows
  pub few_signal_rows : (frame : Frame) → count_by (is_signal_row_of frame) rows ≤ 4
