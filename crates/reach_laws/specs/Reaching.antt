-- What owners have reached on a board, and what a load that they asked for was answered.
use Rattle.std.specs.Prelude.{◌≡◌, true, false, ◌==◌, if◌then◌else◌, Option, Some, Result, Ok, Err, IfErr, IfOk, OnOk, None, slice_get}
use Rattle.cache_ident.specs.declared.idents.Ident.{Ident}
use Rattle.cache_ident.specs.declared.names.KernelNo.{KernelNo}
use Rattle.cache_ident.specs.declared.names.Name.{Name}
use Rattle.cache_ident.specs.declared.names.Name.TheVariants.{Kernel, Mapping, Space}
use Rattle.cache_ident.specs.declared.names.SpaceNo.{SpaceNo}
use Rattle.cache_ident.specs.declared.names.Vpn.{Vpn}
use Rattle.cache_ident.specs.Residents.{IsResident}
use Rattle.phys_groups.specs.declared.rows.Row.{Row}
use Rattle.phys_groups.specs.Translation.{row_of}
use Rattle.board_calls.specs.run_journal.specs.Legal.{first_ident}
use Rattle.board_calls.specs.desc_stores.specs.Contents.{residents_of}
use Rattle.board_calls.specs.board_ops.specs.declared.refusals.Refused.{Refused}
use Rattle.board_calls.specs.board_ops.specs.declared.refusals.Refused.TheVariants.{AlreadyLoaded, NoMemory}
use Rattle.board_calls.specs.cached_machine.specs.Cached.{state_of}
use Rattle.board_calls.specs.board_core.specs.Answers.{IsRefused}
use Rattle.board_calls.specs.board_core.specs.Core.{contents_of, IsSound, Recorded}
use Rattle.board_calls.specs.board_loads.specs.Loads.{IsLoadedAs}
use Rattle.owner_laws.specs.owners.specs.Known.{ident_of, Known}
use Rattle.owner_laws.specs.owners.specs.Owning.{AreOwnersOf}

-- the board is sound and sealed, and owners are owners of it
pub record IsOwned (b : Recorded) (o : Known) : Type 0 where
  pub sound : IsSound b
  pub sealed : b.sealed ≡ true
  pub are : AreOwnersOf b.journal.entries o

-- the identifier that owners have for a kernel: that of the first is known to all
abbrev pub kernel_ident : Known → KernelNo → Option Ident
kernel_ident o kernel = if kernel.0 == 0 then Some first_ident else ident_of o (Kernel kernel)

-- the kernel of the space and the space are loaded, with the identifiers that owners have for them
pub record IsReached (b : Recorded) (o : Known) (space : SpaceNo) : Type 0 where
  pub kernel : KernelNo
  pub its : slice_get (state_of b.machine).spaces space.0 ≡ Some kernel
  pub caller : Ident
  pub caller_known : kernel_ident o kernel ≡ Some caller
  pub caller_live : IsResident (residents_of (contents_of b)) caller (Kernel kernel)
  pub parent : Ident
  pub parent_known : ident_of o (Space space) ≡ Some parent
  pub parent_live : IsResident (residents_of (contents_of b)) parent (Space space)

-- the row of a page of the space is loaded, and has neither receiver nor flag m
pub record IsPlainLoaded (b : Recorded) (space : SpaceNo) (vpn : Vpn) : Type 0 where
  pub row : Row
  pub here : row_of (state_of b.machine).rows space vpn.0 ≡ Some row
  pub alone : row.receiver ≡ None
  pub plain : row.flags.m ≡ false
  pub ident : Ident
  pub live : IsResident (residents_of (contents_of b)) ident (Mapping space vpn)

-- the identifier of what is loaded, which a load gave or was refused with
abbrev pub loaded_as : Result Ident Refused → Result Ident Refused
loaded_as (Ok ident) = Ok ident
loaded_as (Err (AlreadyLoaded ident)) = Ok ident
loaded_as (Err why) = Err why

-- the name is loaded with that identifier, or memory is wanted
abbrev pub IsGot : Recorded → Name → Result Ident Refused → Type 0
IsGot b name (Ok ident) = IsResident (residents_of (contents_of b)) ident name
IsGot b name (Err why) = why ≡ NoMemory

-- a load of the name by processor 0 was refused for this reason, if there is one, and else done
pub record IsLoadAnswer (refusal : Option Refused) (name : Name) (old new : Recorded) (answer : Result Ident Refused) : Type 0 where
  pub refused : IfErr answer (IsRefused refusal old new)
  pub done : OnOk answer (refusal ≡ None)
  pub made : IfOk answer (λ ident. IsLoadedAs 0 name ident old new)
