use Rattle.std.proofs.Common.{not, ap, ◌∙◌}
use Rattle.code_blocks.specs.contracts.blocks.CodeBlock.{the_view}
use Rattle.code_blocks.proofs.Pushed.{pushed_first, pushed_later}
use Rattle.code_blocks.proofs.blocks.CodeBlock.push_unread.Goals as goal

pub returns-then-is_none-clause-ok : goal.returns-then-is_none-clause-ok
returns-then-is_none-clause-ok c =
    pushed_first (the_view c.self.inside) c.args.self.now c.args.number _ _ c.self.view_is c.in_ok-push_str.ensures.bytes c.in_ok-push.ensures.items (c.is_none.ensures ∙ ap not c.if-is_none.true)

pub returns-else-is_none-clause-ok : goal.returns-else-is_none-clause-ok
returns-else-is_none-clause-ok c =
    pushed_later (the_view c.self.inside) c.args.self.now c.args.number _ _ c.self.view_is c.in_ok-push_str.ensures.bytes c.in_ok-push.ensures.items (c.is_none.ensures ∙ ap not c.if-is_none.false)
