use Rattle.image_decls.specs.Declarations.{part_words}
use Rattle.image_decls.proofs.Along.{Along}
use Rattle.image_decls.proofs.words.push_all_words.Given as goal

abbrev pub invariant-loop-i : goal.invariant-loop-i
invariant-loop-i l = Along (part_words l.bytes) l.fn.decls.items l.decls.items l.frame l.next l.image.parts l.i
