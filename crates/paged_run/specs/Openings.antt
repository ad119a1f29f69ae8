-- What declarations make of the machine of a run with few frames.
use Rattle.std.specs.Prelude.{◌≡◌, ℕ, ◌+◌, ◌*◌, ◌≤◌, List, [], ◌∷◌, ◌++◌, length, map, replicate, Option, Some}
use Rattle.flat_rules.specs.flat_state.specs.declared.events.Decl.{Decl}
use Rattle.flat_rules.specs.flat_state.specs.declared.events.Decl.TheVariants as declaration
use Rattle.flat_rules.specs.flat_state.specs.declared.events.Machine.{Machine}
use Rattle.flat_rules.specs.flat_state.specs.Declaration.{declared}
use Rattle.flat_rules.specs.flat_state.specs.Events.{after_declarations}
use Rattle.flat_rules.specs.flat_state.specs.State.{nothing_declared, FlatState}
use Rattle.paged_steps.specs.memory_laws.specs.Apart.{over}
use Rattle.page_store.specs.Kept.{nothing_kept, Kept, Means}
use Rattle.paged_steps.specs.Pages.{HasFrames}
use Rattle.run_journal.specs.declared.entries.Entry.TheVariants.{Declared}
use Rattle.run_journal.specs.Points.{opening}
use Rattle.paged_run.specs.declared.pager.Pager.{Pager}

-- how many frames the machine has that is declared first
abbrev pub frames_of : List Decl → ℕ
frames_of (declaration.Machine machine ∷ ds) = 128 * machine.groups
frames_of _ = 0

-- the bytes of so many frames are zeros
abbrev pub IsZeros : ℕ → List ℕ → Type 0
IsZeros frames bytes = bytes ≡ replicate (4096 * frames) 0

-- the machine alone is declared, and as many frames are there as may be kept
pub record IsBare (machine : Machine) (frames : ℕ) (p : Pager) : Type 0 where
  pub tables : p.tables ≡ declared nothing_declared (declaration.Machine machine)
  pub paged : p.paged ≡ nothing_kept frames (128 * machine.groups)
  pub memory : Means p.paged (Some (replicate (524288 * machine.groups) 0)) (replicate (524288 * machine.groups) 0)
  pub room : 2 ≤ frames → 2 ≤ p.quantum.most
  pub entries : p.journal.entries ≡ Declared (declaration.Machine machine) ∷ []
  pub nobody : p.order.held.items ≡ []
  pub steps : p.steps ≡ 0

-- Over whatever memory the tables had, they are with that of now what the declarations make of them; and where the pages that are
-- kept were that memory together with the store, they are so now.
abbrev pub Makes : List Decl → FlatState → Kept → Option (List ℕ) → FlatState → Kept → Option (List ℕ) → Type 0
Makes ds old pages held new kept told =
    (m : List ℕ) → length m ≡ length old.memory
    → (n : List ℕ) × (length n ≡ length new.memory) × (over new n ≡ after_declarations (over old m) ds) × (Means pages held m → Means kept told n)

-- so many declarations were made, and written down
pub record AddsAll (ds : List Decl) (old : Pager) (held : Option (List ℕ)) (new : Pager) (told : Option (List ℕ)) : Type 0 where
  pub makes : Makes ds old.tables old.paged held new.tables new.paged told
  pub entries : new.journal.entries ≡ old.journal.entries ++ map Declared ds
  pub machine : new.tables.machine ≡ old.tables.machine
  pub quantum : new.quantum ≡ old.quantum
  pub order : new.order ≡ old.order
  pub steps : new.steps ≡ old.steps

abbrev pub Adds : Decl → Pager → Option (List ℕ) → Pager → Option (List ℕ) → Type 0
Adds d old held new told = AddsAll (d ∷ []) old held new told

-- all is declared, and no step was taken
pub record IsOpened (ds : List Decl) (has : ℕ) (p : Pager) : Type 0 where
  pub entries : p.journal.entries ≡ opening ds
  pub nobody : p.order.held.items ≡ []
  pub steps : p.steps ≡ 0
  pub room : 2 ≤ p.quantum.most
  pub frames : HasFrames p.tables p.paged has
