use Rattle.std.proofs.Common.{◌≡◌, ◌++◌, take}
use Rattle.std.specs.List.{flat_map, AllByRecursion}
use Rattle.journal_text.specs.Lines.{field}
use Rattle.journal_text.specs.Ranges.{IsSmall}
use Rattle.journal_text.proofs.printing.put_fields.Given as goal

abbrev pub invariant-loop-value : goal.invariant-loop-value
invariant-loop-value l = (l.out.items ≡ (l.fn.out.items ++ l.word) ++ flat_map field (take l.value-index l.fields)) × AllByRecursion IsSmall (take l.value-index l.fields)
