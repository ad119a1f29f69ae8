-- The name of a space.
use Rattle.cache_ident.specs.declared.names.Name.{Name}
use Rattle.cache_ident.specs.declared.names.Name.TheVariants.{Space}
use Rattle.space_cache.specs.declared.SpaceRec.{SpaceRec}

-- its number
abbrev pub name_of : SpaceRec → Name
name_of space = Space space.no
