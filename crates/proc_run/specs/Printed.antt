-- A run that is put before the checker.
use Rattle.std.specs.Prelude.{◌≡◌, ℕ, ◌≤◌, List, ◌++◌, length, Option, Some}
use Rattle.due_text.specs.Inputs.{most_bytes}
use Rattle.flat_state.specs.declared.events.Decl.{Decl}
use Rattle.flat_state.specs.declared.records.Settled.{Settled}
use Rattle.run_journal.specs.declared.entries.Entry.{Entry}
use Rattle.journal_text.specs.Lines.{journal_text}
use Rattle.journal_text.specs.Ranges.{AreInRange}
use Rattle.seed_scenarios.specs.scenario_print.specs.Texts.{scenario_text}
use Rattle.board_opening.specs.board_core.specs.Core.{Recorded}
use Rattle.run_words.specs.declared.options.Mode.TheVariants.{Check}
use Rattle.run_words.specs.declared.options.Options.{Options}
use Rattle.run_words.specs.Options.{options}
use Rattle.proc_run.specs.declared.outcome.Kept.TheVariants as kept
use Rattle.proc_run.specs.Dues.{status_of}
use Rattle.proc_run.specs.Outcomes.{IsDue, IsScenario, IsTold}

-- the printed scenario of the declarations, and behind it the printed journal
abbrev pub printed_run : List Decl → List Entry → List ℕ
printed_run ds j = scenario_text ds ++ journal_text j

-- By these words the scenario of these declarations was run, and this board is kept of it, whose run is settled so. Its numbers are
-- those of their types, as `journal_text::print` says of each journal that it prints.
pub record IsReturned (words : List (List ℕ)) (o : Options) (ds : List Decl) (how : Settled) (b : Recorded) : Type 0 where
  pub taken : options words ≡ Some o
  pub bytes : Option (List ℕ)
  pub left : Option (List ℕ)
  pub input : List ℕ
  pub told : IsTold o bytes input
  pub is_scenario : IsScenario input ds
  pub text : List ℕ
  pub due : IsDue words bytes left (status_of how) (kept.Board b) text
  pub in_range : AreInRange b.journal.entries

-- these words ask for a check at that limit of steps
pub record AskForCheck (words : List (List ℕ)) (limit : ℕ) : Type 0 where
  pub o : Options
  pub taken : options words ≡ Some o
  pub checks : o.mode ≡ Check
  pub steps : o.steps ≡ limit

-- both texts together are no longer than an input may be
abbrev pub IsShortEnough : List Decl → List Entry → Type 0
IsShortEnough ds j = length (printed_run ds j) ≤ most_bytes
