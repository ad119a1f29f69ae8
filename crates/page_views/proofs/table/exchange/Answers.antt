use Rattle.page_views.proofs.Keeping.{exchanged}
use Rattle.page_views.proofs.table.exchange.Goals as goal

pub returns : goal.returns
returns c =
    let parts = c.split_at_mut-behind.ensures in
    exchanged c.args.count c.args.slot c.args.views.now c.split_at_mut-behind.result.0.now c.split_at_mut-behind.result.1.now c.swap.new.self c.requires.behind c.requires.within parts.front parts.back
    c.swap.ensures.after c.swap.ensures.permutation
