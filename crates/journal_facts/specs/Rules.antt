-- The one rule of its kind that an entry is asked by.
use Rattle.std.specs.Prelude.{Option}
use Rattle.run_journal.specs.declared.entries.Entry.{Entry}
use Rattle.run_journal.specs.declared.entries.Entry.TheVariants.{Declared, Sealed, Loaded, WrittenBack, Locked, Unlocked, Ran, Ended, Completed}
use Rattle.run_journal.specs.Told.{Told}
use Rattle.run_journal.specs.Points.{Rule, Beginning, Order, Loads, Departures, Locks, Steps, Faults, Calls, Processors, LoadKeeps, DepartureKeeps, LockKeeps, StepsKeep, FaultKeeps, CallKeeps}

-- declarations and the seal are asked by the order alone, as each entry is
abbrev pub rule_of : Entry → Rule
rule_of (Declared d) = Order
rule_of Sealed = Order
rule_of (Loaded ident name cpu) = Loads
rule_of (WrittenBack ident cause cpu) = Departures
rule_of (Locked ident cpu) = Locks
rule_of (Unlocked ident cpu) = Locks
rule_of (Ran thread steps cpu) = Steps
rule_of (Ended thread cpu) = Faults
rule_of (Completed thread cpu) = Calls

-- what a rule asks of an entry of its kind, with the one behind it
abbrev pub KeepsAs : Rule → Told → Option Entry → Entry → Type 0
KeepsAs Beginning k next e = Unit {0}
KeepsAs Order k next e = Unit {0}
KeepsAs Loads k next e = LoadKeeps k e
KeepsAs Departures k next e = DepartureKeeps k next e
KeepsAs Locks k next e = LockKeeps k e
KeepsAs Steps k next e = StepsKeep k e
KeepsAs Faults k next e = FaultKeeps k e
KeepsAs Calls k next e = CallKeeps k e
KeepsAs Processors k next e = Unit {0}

-- an entry keeps the rule of its kind
abbrev pub KeepsOwn : Told → Option Entry → Entry → Type 0
KeepsOwn k next e = KeepsAs (rule_of e) k next e
