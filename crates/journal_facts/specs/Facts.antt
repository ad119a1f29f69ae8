-- What the checker of a journal knows at a place of it.
use Rattle.std.specs.Prelude.{◌≡◌, ℕ, ◌^◌, ◌≤◌, false, List, [], Option, Some, None}
use Rattle.cache_ident.specs.declared.idents.Cause.TheVariants.{Displaced, Unloaded}
use Rattle.cache_ident.specs.declared.idents.Ident.{Ident}
use Rattle.flat_state.specs.declared.events.Event.{Event}
use Rattle.flat_state.specs.Events.{flat}
use Rattle.run_journal.specs.declared.entries.Entry.TheVariants.{WrittenBack}
use Rattle.run_journal.specs.Told.{Told, told_after}
use Rattle.journal_groups.specs.journal_tables.specs.Tables.{AreOf}
use Rattle.journal_groups.specs.Leaving.{IsLeaving}
use Rattle.journal_facts.specs.declared.facts.Facts.{Facts}
use Rattle.journal_facts.specs.Order.{beginning_of}

-- the number of loads, where 64 bits can number the next one
abbrev pub IsNumberOf : Option ℕ → ℕ → Type 0
IsNumberOf (Some number) loads = number ≡ loads
IsNumberOf None loads = 2 ^ 64 ≤ loads

-- beside what is leaving and what is due: the machine, which some events made; what is resident, and it is whole; how many were
-- loaded; and whether there was a seal, before which nothing is resident
pub record StandFor (facts : Facts) (k : Told) : Type 0 where
  pub state : k.state ≡ facts.flat
  pub events : List Event
  pub made : k.state ≡ flat events
  pub tables : AreOf facts.tables k
  pub loads : IsNumberOf facts.loads k.loads
  pub seal : facts.sealed ≡ k.sealed
  pub early : k.sealed ≡ false → k.residents ≡ []

-- the facts are what is told: with that, what has left of the group that is leaving, and which beginning is due
pub record AreFactsOf (facts : Facts) (k : Told) : Type 0 where
  pub stand : StandFor facts k
  pub group : IsLeaving facts.group k.state k.before k.residents k.left
  pub due : facts.due ≡ beginning_of k.due

-- they are what is told once that one has left, and ended its group
pub record AreFactsBehind (facts : Facts) (k : Told) (ident : Ident) : Type 0 where
  pub displaced : (cpu : ℕ) → AreFactsOf facts (told_after k (WrittenBack ident Displaced cpu))
  pub unloaded : (cpu : ℕ) → AreFactsOf facts (told_after k (WrittenBack ident Unloaded cpu))
