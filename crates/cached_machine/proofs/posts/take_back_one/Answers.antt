use Rattle.std.proofs.Common.{[], ◌∷◌, sym, subst}
use Rattle.cache_ident.specs.declared.names.Name.{Name}
use Rattle.cached_machine.specs.Posts.{AreBackFrom}
use Rattle.cached_machine.proofs.BackLaws.{one_back}
use Rattle.cached_machine.proofs.posts.take_back_one.Goals as goal

pub returns-in-Thread : goal.returns-in-Thread
returns-in-Thread c =
    subst (λ (n : Name). AreBackFrom (n ∷ []) c.args.tables.now c.send.new.tables) (sym c.in-Thread.is) (one_back c.args.tables.now c.send.new.tables c.in-Thread.no c.send.ensures)
