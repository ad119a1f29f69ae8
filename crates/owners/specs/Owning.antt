-- When what owners know is so of a journal.
use Rattle.std.specs.Prelude.{◌≡◌, ℕ, true, List, ◌++◌, Contains, Some, IsSome, slice_get}
use Rattle.std.specs.Option.{option_map}
use Rattle.cache_ident.specs.declared.idents.Ident.{Ident}
use Rattle.cache_ident.specs.declared.names.KernelNo.{KernelNo}
use Rattle.cache_ident.specs.declared.names.Name.{Name}
use Rattle.cache_ident.specs.declared.names.SpaceNo.{SpaceNo}
use Rattle.cache_ident.specs.declared.names.ThreadNo.{ThreadNo}
use Rattle.cache_ident.specs.declared.names.Vpn.{Vpn}
use Rattle.flat_state.specs.declared.events.Decl.{Decl}
use Rattle.flat_state.specs.declared.records.FlatThread.{FlatThread}
use Rattle.flat_state.specs.Events.{flat}
use Rattle.flat_state.specs.State.{FlatState}
use Rattle.run_journal.specs.declared.entries.Entry.{Entry}
use Rattle.run_journal.specs.declared.entries.Entry.TheVariants.{Loaded}
use Rattle.run_journal.specs.Entries.{erase}
use Rattle.run_journal.specs.Points.{opening}
use Rattle.owners.specs.Known.{home_of, ident_of, knows, receiver_of, space_of, Known}
use Rattle.owners.specs.Telling.{name_in, space_in, IsToldBy}

-- the thread stands, and is one of the space
abbrev pub IsThreadOf : FlatState → SpaceNo → ThreadNo → Type 0
IsThreadOf s space thread = option_map (λ (t : FlatThread). t.space) (slice_get s.threads thread.0) ≡ Some space

-- some entry loaded the name with the identifier
abbrev pub WasLoadedAs : List Entry → Name → Ident → Type 0
WasLoadedAs j name ident = (cpu : ℕ) × Contains j (Loaded ident name cpu)

-- The journal begins with declarations and the seal, and each name declared is known, and each thread with its space.
pub record HaveMet (j : List Entry) (o : Known) : Type 0 where
  pub decls : List Decl
  pub rest : List Entry
  pub begins : j ≡ opening decls ++ rest
  pub names : (name : Name) → IsToldBy name_in decls name → knows o name ≡ true
  pub threads : (thread : ThreadNo) (space : SpaceNo) → IsToldBy space_in decls (thread, space) → space_of o thread ≡ Some space

-- What is believed is so of the machine that the journal makes: a thread stands and is of its space, a receiver stands and is of
-- its row's space, the spaces are all that there are, and a kernel that has spaces has one of them as its home. Each identifier
-- noted is one that its name was loaded with. And what was declared before the seal is known.
pub record AreOwnersOf (j : List Entry) (o : Known) : Type 0 where
  pub met : HaveMet j o
  pub threads : (thread : ThreadNo) (space : SpaceNo) → space_of o thread ≡ Some space → IsThreadOf (flat (erase j)) space thread
  pub receivers : (space : SpaceNo) (vpn : Vpn) (receiver : ThreadNo) → receiver_of o (space, vpn) ≡ Some receiver → IsThreadOf (flat (erase j)) space receiver
  pub spaces : o.spaces ≡ (flat (erase j)).spaces
  pub homes : (kernel : KernelNo) (space : SpaceNo) → home_of o kernel ≡ Some space → slice_get (flat (erase j)).spaces space.0 ≡ Some kernel
  pub housed : (n : ℕ) (kernel : KernelNo) → slice_get (flat (erase j)).spaces n ≡ Some kernel → IsSome (home_of o kernel)
  pub noted : (name : Name) (ident : Ident) → ident_of o name ≡ Some ident → WasLoadedAs j name ident
