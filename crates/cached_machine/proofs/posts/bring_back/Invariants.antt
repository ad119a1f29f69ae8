use Rattle.std.proofs.Common.{map, take}
use Rattle.cache_ident.specs.declared.names.Name.TheVariants as name
use Rattle.cached_machine.specs.Posts.{AreBackFrom}
use Rattle.cached_machine.proofs.posts.bring_back.Given as goal

abbrev pub invariant-loop-no : goal.invariant-loop-no
invariant-loop-no l = AreBackFrom (map name.Thread (take l.no-index l.nos)) l.fn.tables l.tables
