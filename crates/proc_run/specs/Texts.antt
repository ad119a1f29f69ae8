-- What is written of a run.
use Rattle.std.specs.Prelude.{ℕ, List, ◌++◌, length}
use Rattle.flat_state.specs.declared.records.Settled.{Settled}
use Rattle.flat_state.specs.State.{FlatState}
use Rattle.flat_report.specs.Outputs.{output_bytes}
use Rattle.run_journal.specs.declared.entries.Entry.{Entry}
use Rattle.journal_text.specs.Lines.{journal_text}
use Rattle.report_text.specs.Reports.{report, settled_text, summary_text}
use Rattle.proc_run.specs.declared.text.Account.{Account}
use Rattle.proc_run.specs.declared.text.Account.TheVariants.{Report, Journal, Summary}

-- what came of the run of a scenario that was made from a seed
abbrev pub summary_of : ℕ → FlatState → Settled → ℕ → List ℕ
summary_of seed s settled steps = summary_text seed (settled_text settled) steps (length s.threads) (output_bytes s)

-- the text of an account of a run, which made this journal, and left this machine
abbrev pub text_of : Account → List Entry → FlatState → Settled → ℕ → List ℕ
text_of Report j s settled steps = report s settled steps
text_of Journal j s settled steps = journal_text j ++ report s settled steps
text_of (Summary seed) j s settled steps = summary_of seed s settled steps
