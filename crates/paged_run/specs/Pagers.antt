-- The machine of a run with few frames, as it goes on.
use Rattle.std.specs.Prelude.{◌≡◌, ◌≢◌, ℕ, ◌+◌, ◌-◌, ◌*◌, ◌≤◌, if◌then◌else◌, List, Option}
use Rattle.std.specs.List.{list_all}
use Rattle.flat_rules.specs.flat_state.specs.declared.records.FlatThread.{FlatThread}
use Rattle.flat_rules.specs.flat_state.specs.declared.records.Settled.{Settled}
use Rattle.flat_rules.specs.flat_state.specs.declared.records.Settled.TheVariants.{Done, Stalled, Running}
use Rattle.flat_rules.specs.flat_state.specs.State.{is_ended}
use Rattle.flat_rules.specs.flat_state.specs.Settling.{settled_of}
use Rattle.paged_steps.specs.memory_laws.specs.Apart.{over}
use Rattle.paged_steps.specs.Knowing.{Knows}
use Rattle.page_store.specs.Kept.{Means}
use Rattle.paged_steps.specs.Pages.{HasFrames}
use Rattle.paged_run.specs.declared.pager.Pager.{Pager}
use Rattle.paged_run.specs.Runs.{trapped_count, Extends, GoesOn}

-- it can go on with such a store to that limit of steps
pub record IsReady (p : Pager) (has limit : ℕ) : Type 0 where
  pub room : 2 ≤ p.quantum.most
  pub frames : HasFrames p.tables p.paged has
  pub within : p.steps ≤ limit

-- It went on by what its journal grew by, over whatever memory it had with what the store held.
pub record Grew (old : Pager) (held : Option (List ℕ)) (new : Pager) (told : Option (List ℕ)) : Type 0 where
  pub count : ℕ
  pub steps : new.steps ≡ old.steps + count
  pub goes : GoesOn old.tables old.order old.paged held old.journal.entries new.tables new.order new.paged told new.journal.entries count

-- nothing happened but that other pages are kept, and the run is over and settled so
pub record IsOver (old : Pager) (held : Option (List ℕ)) (new : Pager) (told : Option (List ℕ)) (limit : ℕ) (settled : Settled) : Type 0 where
  pub tables : new.tables ≡ old.tables
  pub entries : new.journal.entries ≡ old.journal.entries
  pub steps : new.steps ≡ old.steps
  pub how : (m : List ℕ) → Means old.paged held m → Knows (over old.tables m) old.order → Means new.paged told m × (settled ≡ settled_of (over old.tables m) old.steps limit)
  pub ended : settled ≢ Running

-- it went on until the run was over, and settled so
pub record Ends (old : Pager) (held : Option (List ℕ)) (new : Pager) (told : Option (List ℕ)) (limit : ℕ) (settled : Settled) : Type 0 where
  pub count : ℕ
  pub steps : new.steps ≡ old.steps + count
  pub goes : (m : List ℕ) → Means old.paged held m → Knows (over old.tables m) old.order
      → (n : List ℕ) × Means new.paged told n × Extends (over old.tables m) old.journal.entries (over new.tables n) new.journal.entries count
      × (settled ≡ settled_of (over new.tables n) new.steps limit)
  pub ended : settled ≢ Running

-- how much can still happen at most: a step brings one thread into a call at most, and a completed call takes one out of it
abbrev pub left : Pager → ℕ → ℕ
left p limit = 2 * (limit - p.steps) + trapped_count p.tables

-- how a run stands where nobody can go on
abbrev pub stuck_as : List FlatThread → Settled
stuck_as ts = if list_all (λ t. is_ended t.status) ts then Done else Stalled
