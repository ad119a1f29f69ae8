-- When two keys of a map are one.
use Rattle.std.specs.Prelude.{Bool, ◌&&◌}
use Rattle.cache_ident.specs.contracts.names.KernelNoPartialEq.TheImpl as kernels
use Rattle.cache_ident.specs.contracts.names.NamePartialEq.TheImpl as names
use Rattle.cache_ident.specs.contracts.names.SpaceNoPartialEq.TheImpl as spaces
use Rattle.cache_ident.specs.contracts.names.ThreadNoPartialEq.TheImpl as threads
use Rattle.cache_ident.specs.contracts.names.VpnPartialEq.TheImpl as pages
use Rattle.cache_ident.specs.declared.names.KernelNo.{KernelNo}
use Rattle.cache_ident.specs.declared.names.Name.{Name}
use Rattle.cache_ident.specs.declared.names.SpaceNo.{SpaceNo}
use Rattle.cache_ident.specs.declared.names.ThreadNo.{ThreadNo}
use Rattle.cache_ident.specs.declared.names.Vpn.{Vpn}

abbrev pub is_name : Name → Name → Bool
is_name = (names.ghosts).eq

abbrev pub is_thread : ThreadNo → ThreadNo → Bool
is_thread = (threads.ghosts).eq

abbrev pub is_kernel : KernelNo → KernelNo → Bool
is_kernel = (kernels.ghosts).eq

abbrev pub is_page : SpaceNo × Vpn → SpaceNo × Vpn → Bool
is_page a b = (spaces.ghosts).eq a.0 b.0 && (pages.ghosts).eq a.1 b.1
