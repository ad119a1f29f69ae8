use Rattle.std.proofs.Common.{refl, lit<}
use Rattle.code_blocks.specs.contracts.blocks.CodeBlock.{the_view}
use Rattle.code_blocks.proofs.Pushed.{pushed}
use Rattle.code_blocks.proofs.blocks.CodeBlock.push.Goals as goal

pub returns-clause-ok : goal.returns-clause-ok
returns-clause-ok c =
    let feed = c.in_ok-push.ensures.ascii (lit< tt) in
    pushed (the_view c.self.inside) c.args.self.now c.args.number c.args.line.now _ _ c.self.view_is (rw (c.in_ok-push.ensures.bytes, c.in_ok-push_code.ensures.ok, feed) refl) c.in_ok-push-2.ensures.items
