-- The rows of a space, counted.
use Rattle.std.specs.Prelude.{◌≡◌, ℕ, ◌+◌, ◌<◌, ◌^◌, cond, List, length, count_by, slice_index_or}
use Rattle.phys_groups.specs.declared.rows.Row.{Row}
use Rattle.report_text.specs.Reports.{is_of, is_referenced_of, is_modified_of}
use Rattle.flat_report.specs.declared.counts.RowCounts.{RowCounts}

-- what the rows of a space come to
abbrev pub counted : List Row → ℕ → RowCounts
counted rows space = record { rows = count_by (is_of space) rows; referenced = count_by (is_referenced_of space) rows; modified = count_by (is_modified_of space) rows }

-- the counts with one row more
abbrev pub with_row : Row → RowCounts → RowCounts
with_row row counts = record { rows = counts.rows + 1; referenced = counts.referenced + cond row.referenced 1 0; modified = counts.modified + cond row.modified 1 0 }

-- what is counted of each of so many spaces
pub record AreCounts (rows : List Row) (spaces : ℕ) (counts : List RowCounts) : Type 0 where
  pub len : length counts ≡ spaces
  pub each : (space : ℕ) (d : RowCounts) → space < spaces → slice_index_or counts space d ≡ counted rows space

-- they are what is counted of fewer than 2^63 rows
abbrev pub CountsFew : List RowCounts → Type 0
CountsFew counts = (rows : List Row) × (spaces : ℕ) × AreCounts rows spaces counts × (length rows < 2 ^ 63)
