-- The name of a thread.
use Rattle.cache_ident.specs.declared.names.Name.{Name}
use Rattle.cache_ident.specs.declared.names.Name.TheVariants.{Thread}
use Rattle.thread_cache.specs.declared.ThreadRec.{ThreadRec}

-- its number
abbrev pub name_of : ThreadRec → Name
name_of thread = Thread thread.no
