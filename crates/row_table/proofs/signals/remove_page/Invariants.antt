use Rattle.std.proofs.Common.{◌≡◌, ◌≤◌, length, take}
use Rattle.row_table.specs.SignalPages.{other_pages}
use Rattle.row_table.proofs.signals.remove_page.Given as goal

abbrev pub invariant-loop-other : goal.invariant-loop-other
invariant-loop-other l = (l.others.items ≡ other_pages l.page (take l.other-index l.other-items)) × (length l.others.items ≤ l.other-index)
