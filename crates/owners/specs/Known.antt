-- What owners know, and what a call adds to it.
use Rattle.std.specs.Prelude.{◌≡◌, ◌≢◌, Bool, true, List, Option, Some, None, is_some}
use Rattle.std.specs.Map.{lookup}
use Rattle.std.specs.Option.{option_flatten}
use Rattle.cache_ident.specs.declared.idents.Ident.{Ident}
use Rattle.cache_ident.specs.declared.names.KernelNo.{KernelNo}
use Rattle.cache_ident.specs.declared.names.Name.{Name}
use Rattle.cache_ident.specs.declared.names.SpaceNo.{SpaceNo}
use Rattle.cache_ident.specs.declared.names.ThreadNo.{ThreadNo}
use Rattle.cache_ident.specs.declared.names.Vpn.{Vpn}
use Rattle.owners.specs.Keys.{is_kernel, is_name, is_page, is_thread}

-- The names that they know, each with the identifier noted for it last, if one was; threads with their spaces; pages with the threads
-- that receive the signals of their rows; the kernel of each space; and kernels with a space of each. Names and threads stand in
-- declared order, and behind those as they were first met.
pub record Known : Type 0 where
  pub idents : List (Name × Option Ident)
  pub threads : List (ThreadNo × SpaceNo)
  pub receivers : List ((SpaceNo × Vpn) × ThreadNo)
  pub spaces : List KernelNo
  pub homes : List (KernelNo × SpaceNo)

-- is the name known?
abbrev pub knows : Known → Name → Bool
knows o name = is_some (lookup (is_name name) o.idents)

-- the identifier noted last for a name, if one was
abbrev pub ident_of : Known → Name → Option Ident
ident_of o name = option_flatten (lookup (is_name name) o.idents)

-- the space in which a thread is believed to be
abbrev pub space_of : Known → ThreadNo → Option SpaceNo
space_of o thread = lookup (is_thread thread) o.threads

-- the thread that is believed to receive the signals of a page's row
abbrev pub receiver_of : Known → SpaceNo × Vpn → Option ThreadNo
receiver_of o page = lookup (is_page page) o.receivers

-- a space of a kernel
abbrev pub home_of : Known → KernelNo → Option SpaceNo
home_of o kernel = lookup (is_kernel kernel) o.homes

-- the name is known, with this identifier if one is given, and nothing else changed
pub record IsNotedAs (name : Name) (ident : Option Ident) (old new : Known) : Type 0 where
  pub its : ident_of new name ≡ ident
  pub known : knows new name ≡ true
  pub other_idents : (other : Name) → other ≢ name → ident_of new other ≡ ident_of old other
  pub other_names : (other : Name) → other ≢ name → knows new other ≡ knows old other
  pub rest : new ≡ record old { idents = new.idents }

-- the identifier is the one noted for the name, and nothing else changed
abbrev pub IsNoted : Name → Ident → Known → Known → Type 0
IsNoted name ident old new = IsNotedAs name (Some ident) old new

-- the name is known, and no load of it
abbrev pub IsMet : Name → Known → Known → Type 0
IsMet name old new = IsNotedAs name None old new

-- the thread is known to be one of the space, and nothing else changed
pub record IsSpaceLearnt (thread : ThreadNo) (space : SpaceNo) (old new : Known) : Type 0 where
  pub its : space_of new thread ≡ Some space
  pub others : (other : ThreadNo) → other ≢ thread → space_of new other ≡ space_of old other
  pub rest : new ≡ record old { threads = new.threads }

-- the row of the page is known to have that receiver, or not to have one, and nothing else changed
pub record IsReceiverLearnt (page : SpaceNo × Vpn) (receiver : Option ThreadNo) (old new : Known) : Type 0 where
  pub its : receiver_of new page ≡ receiver
  pub others : (other : SpaceNo × Vpn) → other ≢ page → receiver_of new other ≡ receiver_of old other
  pub rest : new ≡ record old { receivers = new.receivers }
