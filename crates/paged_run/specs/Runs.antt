-- What a run with few frames does to the machine and to the journal.
use Rattle.std.specs.Prelude.{◌≡◌, ◌≢◌, ◌<◌, ℕ, List, [], ◌∷◌, ◌++◌, Option, Some, IsSome, count_by}
use Rattle.flat_rules.specs.flat_state.specs.declared.events.Decl.{Decl}
use Rattle.flat_rules.specs.flat_state.specs.declared.events.Event.{Event}
use Rattle.flat_rules.specs.flat_state.specs.declared.records.Settled.{Settled}
use Rattle.flat_rules.specs.flat_state.specs.declared.records.Settled.TheVariants.{Running}
use Rattle.flat_rules.specs.flat_state.specs.State.{is_trapped, FlatState}
use Rattle.flat_rules.specs.flat_state.specs.Events.{after_event, after_events, applied, flat}
use Rattle.flat_rules.specs.flat_state.specs.Settling.{settled_of}
use Rattle.paged_steps.specs.memory_laws.specs.Apart.{over}
use Rattle.paged_steps.specs.Knowing.{Knows}
use Rattle.paged_steps.specs.declared.order.Order.{Order}
use Rattle.page_store.specs.Kept.{Kept, Means}
use Rattle.flat_report.specs.report_text.specs.Reports.{report}
use Rattle.run_journal.specs.declared.entries.Entry.{Entry}
use Rattle.run_journal.specs.declared.entries.Entry.TheVariants.{Declared, Sealed, Loaded, WrittenBack, Locked, Unlocked, Ran, Ended, Completed}
use Rattle.run_journal.specs.Entries.{erase, steps_in}
use Rattle.run_journal.specs.Points.{opening}

-- each event fits the state that those before it leave
abbrev pub EventsFit : FlatState → List Event → Type 0
EventsFit s [] = Unit {0}
EventsFit s (e ∷ es) = IsSome (after_event s e) × EventsFit (applied s e) es

-- one processor ran steps, ended a thread or completed a call
abbrev pub IsOwn : Entry → Type 0
IsOwn (Declared d) = ⊥
IsOwn Sealed = ⊥
IsOwn (Loaded ident name cpu) = ⊥
IsOwn (WrittenBack ident cause cpu) = ⊥
IsOwn (Locked ident cpu) = ⊥
IsOwn (Unlocked ident cpu) = ⊥
IsOwn (Ran thread steps cpu) = (0 < steps) × (cpu ≡ 0)
IsOwn (Ended thread cpu) = cpu ≡ 0
IsOwn (Completed thread cpu) = cpu ≡ 0

abbrev pub AreOwn : List Entry → Type 0
AreOwn [] = Unit {0}
AreOwn (e ∷ es) = IsOwn e × AreOwn es

-- The journal grew by entries of the one processor whose events fit, with so many steps, and the state is the one that they make.
pub record Extends (old : FlatState) (before : List Entry) (new : FlatState) (after : List Entry) (steps : ℕ) : Type 0 where
  pub rest : List Entry
  pub grown : after ≡ before ++ rest
  pub own : AreOwn rest
  pub fits : EventsFit old (erase rest)
  pub state : new ≡ after_events old (erase rest)
  pub count : steps ≡ steps_in rest

-- over that memory the tables went on to what they are now over the one that the pages and the store have
-- .. and where all is so that was known of held threads, it is so now
abbrev pub GoesFrom : List ℕ → FlatState → Order → List Entry → FlatState → Order → Kept → Option (List ℕ) → List Entry → ℕ → Type 0
GoesFrom m old was before new now kept told after steps =
    (n : List ℕ) × Means kept told n × Extends (over old m) before (over new n) after steps × (Knows (over old m) was → Knows (over new n) now)

-- Whatever memory the tables had with the pages and the store, they have one now, and between the two the journal grew so.
abbrev pub GoesOn : FlatState → Order → Kept → Option (List ℕ) → List Entry → FlatState → Order → Kept → Option (List ℕ) → List Entry → ℕ → Type 0
GoesOn old was pages held before new now kept told after steps = (m : List ℕ) → Means pages held m → GoesFrom m old was before new now kept told after steps

-- how many threads are in a call
abbrev pub trapped_count : FlatState → ℕ
trapped_count s = count_by (λ t. is_trapped t.status) s.threads

-- The journal of a run of these declarations to its end, at a limit of steps, with its report and what the store then holds.
pub record IsPagedRun (ds : List Decl) (limit : ℕ) (j : List Entry) (settled : Settled) (text : List ℕ) (held : Option (List ℕ)) : Type 0 where
  -- it begins with the declarations and the seal, and the rest is what the processor did
  pub rest : List Entry
  pub begins : j ≡ opening ds ++ rest
  pub own : AreOwn rest
  -- each event fits the machine that those before it make
  pub fits : EventsFit (flat (erase (opening ds))) (erase rest)
  -- the run is over, and the report and the store are those of the machine that the journal makes
  pub status : settled ≡ settled_of (flat (erase j)) (steps_in j) limit
  pub ended : settled ≢ Running
  pub reported : text ≡ report (flat (erase j)) settled (steps_in j)
  pub pages : held ≡ Some (flat (erase j)).memory
