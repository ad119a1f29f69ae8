-- What declarations tell owners.
use Rattle.std.specs.Prelude.{◌≡◌, true, List, Contains, Option, Some, None, IsSome}
use Rattle.std.specs.List.{filter_map}
use Rattle.std.specs.Option.{option_map}
use Rattle.cache_ident.specs.declared.names.KernelNo.{KernelNo}
use Rattle.cache_ident.specs.declared.names.Name.{Name}
use Rattle.cache_ident.specs.declared.names.Name.TheVariants as names
use Rattle.cache_ident.specs.declared.names.SpaceNo.{SpaceNo}
use Rattle.cache_ident.specs.declared.names.ThreadNo.{ThreadNo}
use Rattle.cache_ident.specs.declared.names.Vpn.{Vpn}
use Rattle.flat_state.specs.declared.events.Decl.{Decl}
use Rattle.flat_state.specs.declared.events.Decl.TheVariants as decls
use Rattle.owners.specs.Known.{home_of, ident_of, knows, receiver_of, space_of, Known}

-- ---- what one declaration tells, if anything

-- the name of what is declared
abbrev pub name_in : Decl → Option Name
name_in (decls.Kernel n limits) = Some (names.Kernel n)
name_in (decls.Space n kernel) = Some (names.Space n)
name_in (decls.Thread n space pc priority a0 a1) = Some (names.Thread n)
name_in (decls.Map space vpn frame flags receiver) = Some (names.Mapping space vpn)
name_in (decls.Machine machine) = None
name_in (decls.Right kernel group read write) = None
name_in (decls.Word frame offset value) = None

-- a thread with its space
abbrev pub space_in : Decl → Option (ThreadNo × SpaceNo)
space_in (decls.Thread n space pc priority a0 a1) = Some (n, space)
space_in (decls.Machine machine) = None
space_in (decls.Kernel n limits) = None
space_in (decls.Right kernel group read write) = None
space_in (decls.Space n kernel) = None
space_in (decls.Map space vpn frame flags receiver) = None
space_in (decls.Word frame offset value) = None

-- a row with its receiver
abbrev pub receiver_in : Decl → Option ((SpaceNo × Vpn) × ThreadNo)
receiver_in (decls.Map space vpn frame flags receiver) = option_map (λ (thread : ThreadNo). ((space, vpn), thread)) receiver
receiver_in (decls.Machine machine) = None
receiver_in (decls.Kernel n limits) = None
receiver_in (decls.Right kernel group read write) = None
receiver_in (decls.Space n kernel) = None
receiver_in (decls.Thread n space pc priority a0 a1) = None
receiver_in (decls.Word frame offset value) = None

-- the kernel of a space
abbrev pub kernel_in : Decl → Option KernelNo
kernel_in (decls.Space n kernel) = Some kernel
kernel_in (decls.Machine machine) = None
kernel_in (decls.Kernel n limits) = None
kernel_in (decls.Right kernel group read write) = None
kernel_in (decls.Thread n space pc priority a0 a1) = None
kernel_in (decls.Map space vpn frame flags receiver) = None
kernel_in (decls.Word frame offset value) = None

-- a kernel with a space of it
abbrev pub home_in : Decl → Option (KernelNo × SpaceNo)
home_in (decls.Space n kernel) = Some (kernel, n)
home_in (decls.Machine machine) = None
home_in (decls.Kernel n limits) = None
home_in (decls.Right kernel group read write) = None
home_in (decls.Thread n space pc priority a0 a1) = None
home_in (decls.Map space vpn frame flags receiver) = None
home_in (decls.Word frame offset value) = None

-- ---- what they tell together

-- one of them tells this
abbrev pub IsToldBy : {X : Type 0} → (Decl → Option X) → List Decl → X → Type 0
IsToldBy f ds x = (d : Decl) × Contains ds d × (f d ≡ Some x)

-- what is known is told by one of them, and of what they tell something is known
pub record IsAsToldBy {K V : Type 0} (f : Decl → Option (K × V)) (ds : List Decl) (known : K → Option V) : Type 0 where
  pub told : (key : K) (value : V) → known key ≡ Some value → IsToldBy f ds (key, value)
  pub met : (key : K) (value : V) → IsToldBy f ds (key, value) → IsSome (known key)

-- Owners know what is declared, and of no load: each name, with the space of a thread, the receiver of a row and the kernel of a
-- space.
pub record AreNewOwners (ds : List Decl) (o : Known) : Type 0 where
  pub names : (name : Name) → IsToldBy name_in ds name → knows o name ≡ true
  pub idents : (name : Name) → ident_of o name ≡ None
  pub threads : IsAsToldBy space_in ds (space_of o)
  pub receivers : IsAsToldBy receiver_in ds (receiver_of o)
  pub spaces : o.spaces ≡ filter_map kernel_in ds
  pub homes : IsAsToldBy home_in ds (home_of o)
