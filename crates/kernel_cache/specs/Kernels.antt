-- The name of a kernel.
use Rattle.cache_ident.specs.declared.names.Name.{Name}
use Rattle.cache_ident.specs.declared.names.Name.TheVariants.{Kernel}
use Rattle.kernel_cache.specs.declared.KernelRec.{KernelRec}

-- its number
abbrev pub name_of : KernelRec → Name
name_of kernel = Kernel kernel.no
