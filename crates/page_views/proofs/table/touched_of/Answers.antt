use Rattle.std.proofs.Common.{sym, ◌∙◌}
use Rattle.page_views.proofs.Indexing.{none_touched}
use Rattle.page_views.proofs.table.touched_of.Goals as goal

pub returns-else-shared : goal.returns-else-shared
returns-else-shared c = sym (none_touched c.args.frame c.args.views.now (sym c.requires ∙ c.if-shared.false))
