use Rattle.std.proofs.Common.{◌<◌, length}
use Rattle.page_views.proofs.table.given_up.Given as goal

abbrev pub invariant-loop-i : goal.invariant-loop-i
invariant-loop-i l = (l.oldest < length l.kept) × (l.newest < length l.kept)
