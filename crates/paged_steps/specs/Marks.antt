-- What views leave in a row, one after another.
use Rattle.std.specs.Prelude.{if◌then◌else◌, List, [], ◌∷◌}
use Rattle.cache_ident.specs.declared.names.SpaceNo.{SpaceNo}
use Rattle.phys_groups.specs.declared.rows.Row.{Row}
use Rattle.phys_groups.specs.Rows.{marked}
use Rattle.quantum.specs.page_views.specs.Views.{View}

-- the row of a touched view has its marks
abbrev pub mark_of : SpaceNo → View → Row → Row
mark_of space v row = if v.touched then marked space v.vpn.0 v.written row else row

abbrev pub marks_by : SpaceNo → List View → Row → Row
marks_by space [] row = row
marks_by space (v ∷ vs) row = marks_by space vs (mark_of space v row)
