use Rattle.signal_pages.proofs.Walks.{IsWalked}
use Rattle.signal_pages.proofs.receivers.Given as goal

abbrev pub invariant-loop-i : goal.invariant-loop-i
invariant-loop-i l = IsWalked l.frame l.rows l.fit l.i l.found.items
