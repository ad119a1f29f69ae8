use Rattle.std.proofs.Common.{take}
use Rattle.cached_machine.specs.Posts.{AreBackFrom}
use Rattle.cached_machine.proofs.posts.take_back.Given as goal

abbrev pub invariant-loop-i : goal.invariant-loop-i
invariant-loop-i l = AreBackFrom (take l.i l.fn.tables.left) l.fn.tables l.tables
