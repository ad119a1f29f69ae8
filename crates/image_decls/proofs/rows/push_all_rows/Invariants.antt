use Rattle.image_decls.specs.Declarations.{part_rows}
use Rattle.image_decls.proofs.Along.{Along}
use Rattle.image_decls.proofs.rows.push_all_rows.Given as goal

abbrev pub invariant-loop-i : goal.invariant-loop-i
invariant-loop-i l = Along (part_rows l.space) l.fn.decls.items l.decls.items l.frame l.next l.image.parts l.i
