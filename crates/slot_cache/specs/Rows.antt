-- The name of a row.
use Rattle.cache_ident.specs.declared.names.Name.{Name}
use Rattle.cache_ident.specs.declared.names.Name.TheVariants.{Mapping}
use Rattle.phys_groups.specs.declared.rows.Row.{Row}

-- its space and its page
abbrev pub row_name : Row → Name
row_name row = Mapping row.space row.vpn
