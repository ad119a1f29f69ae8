-- The rules of a legal journal by their numbers, each at a place. What must follow a departure is charged to the departure, and what
-- is missing at the end to the place behind it.
use Rattle.std.specs.Prelude.{◌≡◌, ℕ, ◌+◌, ◌<◌, ◌≤◌, List, [], ◌∷◌, ◌++◌, map, take, length, Option, Some, IfSome, slice_get}
use Rattle.cache_ident.specs.declared.idents.Cause.{Cause}
use Rattle.cache_ident.specs.declared.idents.Cause.TheVariants as causes
use Rattle.cache_ident.specs.declared.idents.Ident.{Ident}
use Rattle.cache_ident.specs.declared.idents.Kind.{Kind}
use Rattle.cache_ident.specs.Names.{first_name}
use Rattle.flat_state.specs.declared.events.Decl.{Decl}
use Rattle.flat_state.specs.declared.events.Decl.TheVariants.{Machine}
use Rattle.run_journal.specs.declared.entries.Entry.{Entry}
use Rattle.run_journal.specs.declared.entries.Entry.TheVariants.{Declared, Sealed, Loaded, WrittenBack, Locked, Unlocked, Ran, Ended, Completed}
use Rattle.run_journal.specs.Told.{Due, Opening, Anything, FirstLoad, FirstLock, Departure, Load, Told, told}
use Rattle.run_journal.specs.Legal.{first_ident, IsInPlace, IsByProcessor, MayLoad, MayLeave, MayLock, MayUnlock, MayRun, MayEnd, MayComplete}

-- the rules, in the order of their numbers
pub data Rule : Type 0 where
  Beginning : Rule
  Order : Rule
  Loads : Rule
  Departures : Rule
  Locks : Rule
  Steps : Rule
  Faults : Rule
  Calls : Rule
  Processors : Rule

abbrev pub number_of : Rule → ℕ
number_of Beginning = 0
number_of Order = 1
number_of Loads = 2
number_of Departures = 3
number_of Locks = 4
number_of Steps = 5
number_of Faults = 6
number_of Calls = 7
number_of Processors = 8

-- a place: its number, what the entries before it tell, the entry there, if there is one, and the one behind it
pub record Place : Type 0 where
  pub at : ℕ
  pub told : Told
  pub here : Option Entry
  pub next : Option Entry

abbrev pub place_in : List Entry → ℕ → Place
place_in j at = record { at = at; told = told (take at j); here = slice_get j at; next = slice_get j (at + 1) }

-- a journal begins with the declarations and the seal
abbrev pub opening : List Decl → List Entry
opening ds = map Declared ds ++ Sealed ∷ []

-- the machine comes first; behind the seal the first kernel is loaded, and then locked
abbrev pub IsInOrder : Due → Option Entry → Type 0
IsInOrder Opening (Some (Declared (Machine machine))) = Unit {0}
IsInOrder Opening here = ⊥
IsInOrder FirstLoad here = here ≡ Some (Loaded first_ident first_name 0)
IsInOrder FirstLock here = here ≡ Some (Locked first_ident 0)
IsInOrder Anything here = Unit {0}
IsInOrder (Departure cpu) here = Unit {0}
IsInOrder (Load kind cpu) here = Unit {0}

-- behind a dependent something leaves, by the same processor
abbrev pub IsDepartureBy : ℕ → Option Entry → Type 0
IsDepartureBy cpu (Some (WrittenBack ident cause by)) = by ≡ cpu
IsDepartureBy cpu next = ⊥

-- behind what is displaced something of its kind is loaded, by the same processor
abbrev pub IsLoadBy : Kind → ℕ → Option Entry → Type 0
IsLoadBy kind cpu (Some (Loaded ident name by)) = (ident.kind ≡ kind) × (by ≡ cpu)
IsLoadBy kind cpu next = ⊥

-- what has to follow a departure follows it
abbrev pub IsFollowed : Cause → Ident → ℕ → Option Entry → Type 0
IsFollowed causes.Dependent ident cpu next = IsDepartureBy cpu next
IsFollowed causes.Displaced ident cpu next = IsLoadBy ident.kind cpu next
IsFollowed causes.Unloaded ident cpu next = Unit {0}

-- ---- what each rule asks of an entry

abbrev pub LoadKeeps : Told → Entry → Type 0
LoadKeeps k (Loaded ident name cpu) = MayLoad k ident name
LoadKeeps k e = Unit {0}

abbrev pub DepartureKeeps : Told → Option Entry → Entry → Type 0
DepartureKeeps k next (WrittenBack ident cause cpu) = MayLeave k ident cause × IsFollowed cause ident cpu next
DepartureKeeps k next e = Unit {0}

abbrev pub LockKeeps : Told → Entry → Type 0
LockKeeps k (Locked ident cpu) = MayLock k ident
LockKeeps k (Unlocked ident cpu) = MayUnlock k ident
LockKeeps k e = Unit {0}

abbrev pub StepsKeep : Told → Entry → Type 0
StepsKeep k (Ran thread steps cpu) = MayRun k thread steps
StepsKeep k e = Unit {0}

abbrev pub FaultKeeps : Told → Entry → Type 0
FaultKeeps k (Ended thread cpu) = MayEnd k thread
FaultKeeps k e = Unit {0}

abbrev pub CallKeeps : Told → Entry → Type 0
CallKeeps k (Completed thread cpu) = MayComplete k thread
CallKeeps k e = Unit {0}

-- a place keeps a rule, where the journal is to begin with these declarations
abbrev pub Keeps : Rule → List Decl → Place → Type 0
Keeps Beginning ds p = p.at < length (opening ds) → p.here ≡ slice_get (opening ds) p.at
Keeps Order ds p = IsInOrder p.told.due p.here × IfSome p.here (IsInPlace p.told)
Keeps Loads ds p = IfSome p.here (LoadKeeps p.told)
Keeps Departures ds p = IfSome p.here (DepartureKeeps p.told p.next)
Keeps Locks ds p = IfSome p.here (LockKeeps p.told)
Keeps Steps ds p = IfSome p.here (StepsKeep p.told)
Keeps Faults ds p = IfSome p.here (FaultKeeps p.told)
Keeps Calls ds p = IfSome p.here (CallKeeps p.told)
Keeps Processors ds p = IfSome p.here IsByProcessor

-- a journal keeps all rules at all its places, and at its end
abbrev pub KeepsAll : List Decl → List Entry → Type 0
KeepsAll ds j = (at : ℕ) (rule : Rule) → at ≤ length j → Keeps rule ds (place_in j at)

-- the first place that breaks a rule, and the first rule by number that it breaks
pub record IsFirstBroken (ds : List Decl) (j : List Entry) (at number : ℕ) : Type 0 where
  pub within : at ≤ length j
  pub rule : Rule
  pub its : number ≡ number_of rule
  pub broken : Keeps rule ds (place_in j at) → ⊥
  pub lower : (other : Rule) → number_of other < number → Keeps other ds (place_in j at)
  pub before : (place : ℕ) (other : Rule) → place < at → Keeps other ds (place_in j place)
