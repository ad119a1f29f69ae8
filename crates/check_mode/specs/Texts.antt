-- What is written of a check.
use Rattle.std.specs.Prelude.{ℕ, List, ◌++◌, codes}
use Rattle.std.specs.Fmt.{decimal}
use Rattle.flat_machine.specs.flat_state.specs.declared.records.Settled.{Settled}
use Rattle.flat_machine.specs.flat_state.specs.State.{FlatState}
use Rattle.flat_report.specs.report_text.specs.Reports.{report}

abbrev pub yes_text : FlatState → Settled → ℕ → List ℕ
yes_text s settled steps = codes "journal yes\n" ++ report s settled steps

abbrev pub no_line : ℕ → ℕ → List ℕ
no_line at point = codes "journal no at " ++ (decimal at ++ (codes " point " ++ (decimal point ++ codes "\n")))

abbrev pub fault_line : ℕ → List ℕ
fault_line line = codes "journal fault line " ++ (decimal line ++ codes "\n")
