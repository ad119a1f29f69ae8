-- When a journal is legal.
use Rattle.std.specs.Prelude.{◌≡◌, ◌≢◌, ℕ, ◌<◌, Bool, true, false, ◌&&◌, ◌==◌, List, [], ◌∷◌, ◌++◌, count_by, replicate, Contains, Option, Some, None, IsSome, slice_get}
use Rattle.cache_ident.specs.declared.idents.Cause.{Cause}
use Rattle.cache_ident.specs.declared.idents.Cause.TheVariants as causes
use Rattle.cache_ident.specs.declared.idents.Ident.{Ident}
use Rattle.cache_ident.specs.declared.idents.Kind.{Kind}
use Rattle.cache_ident.specs.declared.idents.Kind.TheVariants as kinds
use Rattle.cache_ident.specs.contracts.idents.KindPartialEq.TheImpl as kind
use Rattle.cache_ident.specs.declared.names.Caps.{Caps}
use Rattle.cache_ident.specs.declared.names.KernelNo.{KernelNo}
use Rattle.cache_ident.specs.declared.names.Name.{Name}
use Rattle.cache_ident.specs.declared.names.Name.TheVariants.{Thread}
use Rattle.cache_ident.specs.declared.names.ThreadNo.{ThreadNo}
use Rattle.cache_ident.specs.Names.{kind_of, amount_of, first_name}
use Rattle.cache_ident.specs.Residents.{Resident, IsNameResident}
use Rattle.flat_state.specs.declared.events.Decl.TheVariants.{Machine}
use Rattle.flat_state.specs.declared.events.Event.TheVariants.{Step, Complete}
use Rattle.flat_state.specs.declared.records.FlatKernel.{FlatKernel}
use Rattle.flat_state.specs.declared.records.NextStep.{NextStep}
use Rattle.flat_state.specs.State.{FlatState}
use Rattle.flat_state.specs.Declaration.{broken_rule, caps_of}
use Rattle.flat_state.specs.Dependence.{owner}
use Rattle.flat_state.specs.Names.{stands, is_fit_name}
use Rattle.flat_state.specs.Events.{after_event, after_events, applied}
use Rattle.flat_state.specs.NextSteps.{next_step}
use Rattle.run_journal.specs.declared.entries.Entry.{Entry}
use Rattle.run_journal.specs.declared.entries.Entry.TheVariants.{Declared, Sealed, Loaded, WrittenBack, Locked, Unlocked, Ran, Ended, Completed}
use Rattle.run_journal.specs.Entries.{maker_of}
use Rattle.run_journal.specs.Told.{Told, Due, Opening, Anything, FirstLoad, FirstLock, Departure, Load, nothing_told, told_after, told_from}
use Rattle.run_journal.specs.Groups.{NothingDependsOn, HasParents, IsGroup}

-- ---- order

-- the identifier of the first kernel, which is loaded first and never leaves
abbrev pub first_ident : Ident
first_ident = record { kind = kinds.Kernel; slot = 0; serial = 0 }

-- the entry is what has to come
abbrev pub Comes : Due → Entry → Type 0
Comes Anything e = Unit {0}
Comes Opening (Declared (Machine machine)) = Unit {0}
Comes Opening e = ⊥
Comes FirstLoad e = e ≡ Loaded first_ident first_name 0
Comes FirstLock e = e ≡ Locked first_ident 0
Comes (Departure cpu) (WrittenBack ident cause by) = by ≡ cpu
Comes (Departure cpu) e = ⊥
Comes (Load kind cpu) (Loaded ident name by) = (ident.kind ≡ kind) × (by ≡ cpu)
Comes (Load kind cpu) e = ⊥

-- declarations stand before the seal, and each fits; everything else stands behind it, and there is one seal
abbrev pub IsInPlace : Told → Entry → Type 0
IsInPlace k (Declared d) = (k.sealed ≡ false) × (broken_rule k.state d ≡ None)
IsInPlace k Sealed = k.sealed ≡ false
IsInPlace k e = k.sealed ≡ true

-- there are eight processors
abbrev pub IsByProcessor : Entry → Type 0
IsByProcessor e = maker_of e < 8

-- ---- loads

-- the two kinds are one
abbrev pub is_kind : Kind → Kind → Bool
is_kind = (kind.ghosts).eq

-- something of the kind has the slot
abbrev pub IsTaken : List Resident → Kind → ℕ → Type 0
IsTaken rs kind slot = (r : Resident) × Contains rs r × (r.ident.kind ≡ kind) × (r.ident.slot ≡ slot)

-- how many of a kind there can be, and how many there are
abbrev pub cap_of : FlatState → Kind → ℕ
cap_of s kind = amount_of (caps_of s.machine) kind

abbrev pub count_of : List Resident → Kind → ℕ
count_of rs kind = count_by (λ r. is_kind r.ident.kind kind) rs

pub record MayLoad (k : Told) (ident : Ident) (name : Name) : Type 0 where
  pub there : stands k.state name ≡ true
  pub absent : IsNameResident k.residents name → ⊥
  pub parents : HasParents k.state k.residents name
  pub fit : is_fit_name k.state name ≡ true
  pub kind : ident.kind ≡ kind_of name
  pub serial : ident.serial ≡ k.loads
  -- the slot is the lowest free one
  pub free : IsTaken k.residents ident.kind ident.slot → ⊥
  pub lowest : (slot : ℕ) → slot < ident.slot → IsTaken k.residents ident.kind slot
  pub within : ident.slot < cap_of k.state ident.kind

-- ---- departures

-- before the group there were as many of the kind as there can be
abbrev pub IsFullBefore : Told → Kind → Type 0
IsFullBefore k kind = count_of k.before kind ≡ cap_of k.state kind

-- why it leaves: as one of a group that goes on, or with its group; and it is displaced only where it isn't locked and its
-- cache was full before the group left
abbrev pub LeavesBy : Cause → Told → Resident → Type 0
LeavesBy causes.Dependent k r = Unit {0}
LeavesBy causes.Unloaded k r = IsGroup k.state k.before r (k.left ++ r.ident ∷ [])
LeavesBy causes.Displaced k r =
    IsGroup k.state k.before r (k.left ++ r.ident ∷ []) × (r.locked ≡ false) × IsFullBefore k r.ident.kind

pub record MayLeave (k : Told) (ident : Ident) (cause : Cause) : Type 0 where
  pub resident : Resident
  pub there : Contains k.residents resident
  pub its : resident.ident ≡ ident
  pub not_first : ident ≢ first_ident
  pub last : NothingDependsOn k.state k.residents resident.name
  pub by_cause : LeavesBy cause k resident

-- ---- locks

abbrev pub is_kernel : KernelNo → Option KernelNo → Bool
is_kernel kernel None = false
is_kernel kernel (Some other) = other.0 == kernel.0

-- how many of a kernel's descriptors of a kind are locked, and how many may be
abbrev pub locked_by : FlatState → List Resident → KernelNo → Kind → ℕ
locked_by s rs kernel kind = count_by (λ r. r.locked && (is_kind r.ident.kind kind && is_kernel kernel (owner s r.name))) rs

abbrev pub limits_in : Option FlatKernel → Caps
limits_in None = record { kernels = 0; spaces = 0; threads = 0; mappings = 0 }
limits_in (Some kernel) = kernel.limits

abbrev pub limit_of : FlatState → KernelNo → Kind → ℕ
limit_of s kernel kind = amount_of (limits_in (slice_get s.kernels kernel.0)) kind

pub record MayLock (k : Told) (ident : Ident) : Type 0 where
  pub resident : Resident
  pub there : Contains k.residents resident
  pub its : resident.ident ≡ ident
  pub unlocked : resident.locked ≡ false
  pub kernel : KernelNo
  pub owned : owner k.state resident.name ≡ Some kernel
  pub room : locked_by k.state k.residents kernel ident.kind < limit_of k.state kernel ident.kind

pub record MayUnlock (k : Told) (ident : Ident) : Type 0 where
  pub resident : Resident
  pub there : Contains k.residents resident
  pub its : resident.ident ≡ ident
  pub locked : resident.locked ≡ true
  pub not_first : ident ≢ first_ident

-- ---- steps

abbrev pub IsRowResident : List Resident → Option Name → Type 0
IsRowResident rs None = Unit {0}
IsRowResident rs (Some name) = IsNameResident rs name

-- The next step of the thread fits, and faults or doesn't. The row that its fetch goes through is resident, and where it
-- doesn't fault that of its data too.
pub record MayStep (s : FlatState) (rs : List Resident) (thread : ThreadNo) (faults : Bool) : Type 0 where
  pub next : NextStep
  pub its : next_step s thread.0 ≡ Some next
  pub runs : next.runnable ≡ true
  pub faulty : next.faults ≡ faults
  pub fetch : IsRowResident rs next.fetch_row
  pub «data» : faults ≡ false → IsRowResident rs next.data_row

-- does the step end its thread because an access doesn't translate? Not where there is no such thread.
abbrev pub is_faulty : Option NextStep → Bool
is_faulty None = false
is_faulty (Some next) = next.faults

-- the next step of the thread fits, and whether it faults, whatever is resident
abbrev pub TakesStep : FlatState → ThreadNo → Bool → Type 0
TakesStep s thread faulty = IsSome (after_event s (Step thread)) × (is_faulty (next_step s thread.0) ≡ faulty)

-- the machine after so many steps of a thread
abbrev pub after_steps : FlatState → ThreadNo → ℕ → FlatState
after_steps s thread n = after_events s (replicate n (Step thread))

-- so many steps of a thread, one after another, each fit, and none faults
abbrev pub TakesSteps : FlatState → ThreadNo → ℕ → Type 0
TakesSteps s thread n = (k : ℕ) → k < n → TakesStep (after_steps s thread k) thread false

pub record MayRun (k : Told) (thread : ThreadNo) (steps : ℕ) : Type 0 where
  pub some : 0 < steps
  pub resident : IsNameResident k.residents (Thread thread)
  pub each : (n : ℕ) → n < steps → MayStep (after_steps k.state thread n) k.residents thread false

pub record MayEnd (k : Told) (thread : ThreadNo) : Type 0 where
  pub resident : IsNameResident k.residents (Thread thread)
  pub step : MayStep k.state k.residents thread true

-- ---- calls

-- a resident still stands, is fit, and has all that it depends on
pub record StaysGood (s : FlatState) (rs : List Resident) (r : Resident) : Type 0 where
  pub there : stands s r.name ≡ true
  pub fit : is_fit_name s r.name ≡ true
  pub parents : HasParents s rs r.name

-- each of them does
abbrev pub AreGood : FlatState → List Resident → Type 0
AreGood s rs = (r : Resident) → Contains rs r → StaysGood s rs r

pub record MayComplete (k : Told) (thread : ThreadNo) : Type 0 where
  pub resident : IsNameResident k.residents (Thread thread)
  pub fits : IsSome (after_event k.state (Complete thread))
  pub good : AreGood (applied k.state (Complete thread)) k.residents

-- ---- all rules

-- what an entry of its kind asks
abbrev pub MayHappen : Told → Entry → Type 0
MayHappen k (Declared d) = Unit {0}
MayHappen k Sealed = Unit {0}
MayHappen k (Loaded ident name cpu) = MayLoad k ident name
MayHappen k (WrittenBack ident cause cpu) = MayLeave k ident cause
MayHappen k (Locked ident cpu) = MayLock k ident
MayHappen k (Unlocked ident cpu) = MayUnlock k ident
MayHappen k (Ran thread steps cpu) = MayRun k thread steps
MayHappen k (Ended thread cpu) = MayEnd k thread
MayHappen k (Completed thread cpu) = MayComplete k thread

-- an entry may come next
pub record MayCome (k : Told) (e : Entry) : Type 0 where
  pub comes : Comes k.due e
  pub place : IsInPlace k e
  pub processor : IsByProcessor e
  pub happens : MayHappen k e

-- each entry may come, on what those before it tell
abbrev pub AreLegal : Told → List Entry → Type 0
AreLegal k [] = Unit {0}
AreLegal k (e ∷ es) = MayCome k e × AreLegal (told_after k e) es

-- a journal is legal: each entry may come, and nothing more has to
pub record IsLegal (j : List Entry) : Type 0 where
  pub each : AreLegal nothing_told j
  pub whole : (told_from nothing_told j).due ≡ Anything
