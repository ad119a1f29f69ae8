-- Lines that each of the programs may write.
use Rattle.std.specs.Prelude.{ℕ, List, ◌++◌, codes}
use Rattle.std.specs.Fmt.{decimal}

abbrev pub too_long_line : List ℕ
too_long_line = codes "too long\n"

-- the first line of a text that breaks a rule, and the lowest rule that it breaks
abbrev pub scenario_fault_line : ℕ → ℕ → List ℕ
scenario_fault_line line rule = codes "scenario fault line " ++ (decimal line ++ (codes " rule " ++ (decimal rule ++ codes "\n")))
