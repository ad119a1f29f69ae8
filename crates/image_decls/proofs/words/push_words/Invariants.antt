use Rattle.std.proofs.Common.{◌≡◌, ◌++◌}
use Rattle.image_decls.specs.Declarations.{first_words}
use Rattle.image_decls.proofs.words.push_words.Given as goal

abbrev pub invariant-loop-word : goal.invariant-loop-word
invariant-loop-word l = l.decls.items ≡ l.fn.decls.items ++ first_words l.bytes l.frame l.part l.word
