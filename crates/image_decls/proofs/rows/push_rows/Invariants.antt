use Rattle.std.proofs.Common.{◌≡◌, ◌++◌}
use Rattle.image_decls.specs.Declarations.{first_rows}
use Rattle.image_decls.proofs.rows.push_rows.Given as goal

abbrev pub invariant-loop-page : goal.invariant-loop-page
invariant-loop-page l = l.decls.items ≡ l.fn.decls.items ++ first_rows l.space l.frame l.part l.page
