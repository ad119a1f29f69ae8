use Rattle.std.proofs.Common.{◌≡◌, take}
use Rattle.std.specs.List.{flat_map, AllByRecursion}
use Rattle.journal_text.specs.Ranges.{IsDeclInRange}
use Rattle.scenario_print.specs.Texts.{decl_text}
use Rattle.scenario_print.proofs.printing.print.Given as goal

abbrev pub invariant-loop-decl : goal.invariant-loop-decl
invariant-loop-decl l = (l.text.items ≡ flat_map decl_text (take l.decl-index l.decl-items)) × AllByRecursion IsDeclInRange (take l.decl-index l.decl-items)
