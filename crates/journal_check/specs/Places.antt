-- What a place of a journal keeps, and what it breaks first.
use Rattle.std.specs.Prelude.{◌≡◌, ℕ, ◌<◌, List, Option, Some, None}
use Rattle.flat_machine.specs.flat_state.specs.declared.events.Decl.{Decl}
use Rattle.run_journal.specs.declared.entries.Entry.{Entry}
use Rattle.run_journal.specs.Told.{Told, told_after}
use Rattle.run_journal.specs.Points.{Rule, Place, Keeps, number_of}
use Rattle.journal_facts.specs.declared.facts.Facts.{Facts}
use Rattle.journal_facts.specs.Facts.{AreFactsOf}

-- the place of that number, where that is told, with the entry there and the one behind it
abbrev pub place : ℕ → Told → Option Entry → Option Entry → Place
place at k here next = record { at = at; told = k; here = here; next = next }

-- the facts are what is told with the entry at the place, if there is one
abbrev pub AreFactsAfter : Facts → Told → Option Entry → Type 0
AreFactsAfter facts k None = AreFactsOf facts k
AreFactsAfter facts k (Some e) = AreFactsOf facts (told_after k e)

-- the place keeps each rule
abbrev pub KeepsEach : List Decl → Place → Type 0
KeepsEach ds p = (rule : Rule) → Keeps rule ds p

-- the first rule by number that the place breaks
pub record BreaksFirst (ds : List Decl) (p : Place) (number : ℕ) : Type 0 where
  pub rule : Rule
  pub its : number ≡ number_of rule
  pub broken : Keeps rule ds p → ⊥
  pub lower : (other : Rule) → number_of other < number → Keeps other ds p
