use Rattle.std.proofs.Common.{◌≡◌, take}
use Rattle.std.specs.List.{flat_map}
use Rattle.journal_text.specs.Lines.{line}
use Rattle.journal_text.specs.Ranges.{AreInRange}
use Rattle.journal_text.proofs.printing.print.Given as goal

abbrev pub invariant-loop-entry : goal.invariant-loop-entry
invariant-loop-entry l = (l.out.items ≡ flat_map line (take l.entry-index l.entry-items)) × AreInRange (take l.entry-index l.entry-items)
