use Rattle.std.proofs.Common.{take}
use Rattle.owners.specs.Telling.{AreNewOwners}
use Rattle.owners.proofs.owners.Owners.new.Given as goal

abbrev pub invariant-loop-decl : goal.invariant-loop-decl
invariant-loop-decl l = AreNewOwners (take l.decl-index l.decls) l.owners
