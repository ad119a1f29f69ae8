use Rattle.std.proofs.Common.{◌≡◌, ◌++◌, take, map}
use Rattle.std.specs.List.{flat_map, AllByRecursion}
use Rattle.std.specs.Fmt.{decimal}
use Rattle.journal_text.specs.Ranges.{IsSmall}
use Rattle.scenario_print.specs.Texts.{spaced}
use Rattle.scenario_print.proofs.printing.put_numbers.Given as goal

abbrev pub invariant-loop-value : goal.invariant-loop-value
invariant-loop-value l = (l.out.items ≡ (l.fn.out.items ++ l.word) ++ flat_map spaced (map decimal (take l.value-index l.values))) × AllByRecursion IsSmall (take l.value-index l.values)
