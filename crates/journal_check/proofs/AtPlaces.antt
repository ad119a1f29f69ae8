-- What a place keeps, and which rule it breaks first, by what was found of its entry.
use Rattle.std.proofs.Common.{◌≡◌, ℕ, ◌<◌, ◌≤◌, Bool, true, false, List, Option, Some, None, refl, arith}
use Rattle.std.specs.Prelude.{IsTrue, ◌↔◌}
use Rattle.flat_machine.specs.flat_state.specs.declared.events.Decl.{Decl}
use Rattle.run_journal.specs.declared.entries.Entry.{Entry}
use Rattle.run_journal.specs.declared.entries.Entry.TheVariants.{Declared, Sealed, Loaded, WrittenBack, Locked, Unlocked, Ran, Ended, Completed}
use Rattle.run_journal.specs.Entries.{maker_of}
use Rattle.run_journal.specs.Told.{Told}
use Rattle.run_journal.specs.Legal.{IsByProcessor}
use Rattle.run_journal.specs.Points.{Rule, Beginning, Order, Loads, Departures, Locks, Steps, Faults, Calls, Processors, Place, Keeps, number_of}
use Rattle.journal_facts.specs.Rules.{rule_of, KeepsOwn}
use Rattle.journal_check.specs.Places.{place, KeepsEach, BreaksFirst}

-- what a test answers no to doesn't hold
pub refuted : {P : Type 0} (b : Bool) → b ≡ false → (IsTrue b ↔ P) → P → ⊥
refuted b fails test holds = let yes : b ≡ true = test.1 holds in cc

-- ---- the rules on order

pub breaks_beginning : (ds : List Decl) (p : Place) → (Keeps Beginning ds p → ⊥) → BreaksFirst ds p 0
breaks_beginning ds p broken = record { rule = Beginning; its = refl; broken = broken; lower = λ other lt. absurd (omega arith) }

below_order : (ds : List Decl) (p : Place) → Keeps Beginning ds p → (other : Rule) → number_of other < 1 → Keeps other ds p
below_order ds p begins Beginning lt = begins
below_order ds p begins Order lt = absurd (omega arith)
below_order ds p begins Loads lt = absurd (omega arith)
below_order ds p begins Departures lt = absurd (omega arith)
below_order ds p begins Locks lt = absurd (omega arith)
below_order ds p begins Steps lt = absurd (omega arith)
below_order ds p begins Faults lt = absurd (omega arith)
below_order ds p begins Calls lt = absurd (omega arith)
below_order ds p begins Processors lt = absurd (omega arith)

pub breaks_order : (ds : List Decl) (p : Place) → Keeps Beginning ds p → (Keeps Order ds p → ⊥) → BreaksFirst ds p 1
breaks_order ds p begins broken = record { rule = Order; its = refl; broken = broken; lower = below_order ds p begins }

-- nothing is asked of the end beyond these two
pub end_keeps : (ds : List Decl) (at : ℕ) (k : Told) (next : Option Entry) → Keeps Beginning ds (place at k None next) → Keeps Order ds (place at k None next) → KeepsEach ds (place at k None next)
end_keeps ds at k next begins order Beginning = begins
end_keeps ds at k next begins order Order = order
end_keeps ds at k next begins order Loads = tt
end_keeps ds at k next begins order Departures = tt
end_keeps ds at k next begins order Locks = tt
end_keeps ds at k next begins order Steps = tt
end_keeps ds at k next begins order Faults = tt
end_keeps ds at k next begins order Calls = tt
end_keeps ds at k next begins order Processors = tt

-- ---- the rules on kinds of entries

-- the rules below that of processors are kept where those on order and the entry's own are
kept_below : (ds : List Decl) (at : ℕ) (k : Told) (e : Entry) (next : Option Entry) → Keeps Beginning ds (place at k (Some e) next) → Keeps Order ds (place at k (Some e) next) → KeepsOwn k next e
    → (rule : Rule) → number_of rule < 8 → Keeps rule ds (place at k (Some e) next)
kept_below ds at k e next begins order own Beginning lt = begins
kept_below ds at k e next begins order own Order lt = order
kept_below ds at k e next begins order own Processors lt = absurd (omega arith)
kept_below ds at k (Loaded ident name cpu) next begins order own Loads lt = own
kept_below ds at k e next begins order own Loads lt = tt
kept_below ds at k (WrittenBack ident cause cpu) next begins order own Departures lt = own
kept_below ds at k e next begins order own Departures lt = tt
kept_below ds at k (Locked ident cpu) next begins order own Locks lt = own
kept_below ds at k (Unlocked ident cpu) next begins order own Locks lt = own
kept_below ds at k e next begins order own Locks lt = tt
kept_below ds at k (Ran thread steps cpu) next begins order own Steps lt = own
kept_below ds at k e next begins order own Steps lt = tt
kept_below ds at k (Ended thread cpu) next begins order own Faults lt = own
kept_below ds at k e next begins order own Faults lt = tt
kept_below ds at k (Completed thread cpu) next begins order own Calls lt = own
kept_below ds at k e next begins order own Calls lt = tt

pub all_kept : (ds : List Decl) (at : ℕ) (k : Told) (e : Entry) (next : Option Entry) → Keeps Beginning ds (place at k (Some e) next) → Keeps Order ds (place at k (Some e) next) → KeepsOwn k next e → IsByProcessor e
    → KeepsEach ds (place at k (Some e) next)
all_kept ds at k e next begins order own by Processors = by
all_kept ds at k e next begins order own by Beginning = begins
all_kept ds at k e next begins order own by Order = order
all_kept ds at k e next begins order own by Loads = kept_below ds at k e next begins order own Loads (omega arith)
all_kept ds at k e next begins order own by Departures = kept_below ds at k e next begins order own Departures (omega arith)
all_kept ds at k e next begins order own by Locks = kept_below ds at k e next begins order own Locks (omega arith)
all_kept ds at k e next begins order own by Steps = kept_below ds at k e next begins order own Steps (omega arith)
all_kept ds at k e next begins order own by Faults = kept_below ds at k e next begins order own Faults (omega arith)
all_kept ds at k e next begins order own by Calls = kept_below ds at k e next begins order own Calls (omega arith)

pub breaks_processors : (ds : List Decl) (at : ℕ) (k : Told) (e : Entry) (next : Option Entry) → Keeps Beginning ds (place at k (Some e) next) → Keeps Order ds (place at k (Some e) next) → KeepsOwn k next e → 8 ≤ maker_of e
    → BreaksFirst ds (place at k (Some e) next) 8
breaks_processors ds at k e next begins order own high = record {
  rule = Processors;
  its = refl;
  broken = λ by. let low : maker_of e < 8 = by in omega arith;
  lower = kept_below ds at k e next begins order own;
}

-- below the entry's own rule it keeps what is asked of other kinds
below_own : (ds : List Decl) (at : ℕ) (k : Told) (e : Entry) (next : Option Entry) → Keeps Beginning ds (place at k (Some e) next) → Keeps Order ds (place at k (Some e) next)
    → (other : Rule) → number_of other < number_of (rule_of e) → Keeps other ds (place at k (Some e) next)
below_own ds at k e next begins order Beginning lt = begins
below_own ds at k e next begins order Order lt = order
below_own ds at k e next begins order Processors lt = absurd (few e lt)
  where
    few : (e : Entry) → 8 < number_of (rule_of e) → ⊥
    few (Declared d) lt = omega arith
    few Sealed lt = omega arith
    few (Loaded ident name cpu) lt = omega arith
    few (WrittenBack ident cause cpu) lt = omega arith
    few (Locked ident cpu) lt = omega arith
    few (Unlocked ident cpu) lt = omega arith
    few (Ran thread steps cpu) lt = omega arith
    few (Ended thread cpu) lt = omega arith
    few (Completed thread cpu) lt = omega arith
below_own ds at k (Loaded ident name cpu) next begins order Loads lt = absurd (omega arith)
below_own ds at k e next begins order Loads lt = tt
below_own ds at k (WrittenBack ident cause cpu) next begins order Departures lt = absurd (omega arith)
below_own ds at k e next begins order Departures lt = tt
below_own ds at k (Locked ident cpu) next begins order Locks lt = absurd (omega arith)
below_own ds at k (Unlocked ident cpu) next begins order Locks lt = absurd (omega arith)
below_own ds at k e next begins order Locks lt = tt
below_own ds at k (Ran thread steps cpu) next begins order Steps lt = absurd (omega arith)
below_own ds at k e next begins order Steps lt = tt
below_own ds at k (Ended thread cpu) next begins order Faults lt = absurd (omega arith)
below_own ds at k e next begins order Faults lt = tt
below_own ds at k (Completed thread cpu) next begins order Calls lt = absurd (omega arith)
below_own ds at k e next begins order Calls lt = tt

pub breaks_own : (ds : List Decl) (at : ℕ) (k : Told) (e : Entry) (next : Option Entry) → Keeps Beginning ds (place at k (Some e) next) → Keeps Order ds (place at k (Some e) next) → (KeepsOwn k next e → ⊥)
    → BreaksFirst ds (place at k (Some e) next) (number_of (rule_of e))
breaks_own ds at k (Declared d) next begins order broken = absurd (broken tt)
breaks_own ds at k Sealed next begins order broken = absurd (broken tt)
breaks_own ds at k (Loaded ident name cpu) next begins order broken = record { rule = Loads; its = refl; broken = broken; lower = below_own ds at k (Loaded ident name cpu) next begins order }
breaks_own ds at k (WrittenBack ident cause cpu) next begins order broken = record { rule = Departures; its = refl; broken = broken; lower = below_own ds at k (WrittenBack ident cause cpu) next begins order }
breaks_own ds at k (Locked ident cpu) next begins order broken = record { rule = Locks; its = refl; broken = broken; lower = below_own ds at k (Locked ident cpu) next begins order }
breaks_own ds at k (Unlocked ident cpu) next begins order broken = record { rule = Locks; its = refl; broken = broken; lower = below_own ds at k (Unlocked ident cpu) next begins order }
breaks_own ds at k (Ran thread steps cpu) next begins order broken = record { rule = Steps; its = refl; broken = broken; lower = below_own ds at k (Ran thread steps cpu) next begins order }
breaks_own ds at k (Ended thread cpu) next begins order broken = record { rule = Faults; its = refl; broken = broken; lower = below_own ds at k (Ended thread cpu) next begins order }
breaks_own ds at k (Completed thread cpu) next begins order broken = record { rule = Calls; its = refl; broken = broken; lower = below_own ds at k (Completed thread cpu) next begins order }
