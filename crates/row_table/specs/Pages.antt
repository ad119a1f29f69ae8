-- Pages of spaces, and the rows that are theirs.
use Rattle.std.specs.Prelude.{Bool}
use Rattle.std.specs.Ordering.{nat_cmp, ordering_then}
use Rattle.std.specs.declared.cmp.Ordering.{Ordering}
use Rattle.phys_groups.specs.declared.rows.Row.{Row}
use Rattle.phys_groups.specs.Translation.{is_row_of}
use Rattle.row_table.specs.declared.pages.PageKey.{PageKey}

-- the page of a row
abbrev pub key_of : Row → PageKey
key_of row = record { space = row.space.0; vpn = row.vpn.0 }

-- the row is that of the page
abbrev pub is_of : PageKey → Row → Bool
is_of page row = is_row_of (record { 0 = page.space }) page.vpn row

-- by space, and then by page
abbrev pub page_cmp : PageKey → PageKey → Ordering
page_cmp a b = ordering_then (nat_cmp a.space b.space) (nat_cmp a.vpn b.vpn)
