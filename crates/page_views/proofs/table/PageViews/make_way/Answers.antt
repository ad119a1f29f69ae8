use Rattle.page_views.proofs.Keeping.{reordered}
use Rattle.page_views.proofs.Tables.{written_over}
use Rattle.page_views.proofs.table.PageViews.make_way.Goals as goal

pub returns : goal.returns
returns c =
    let q = c.self.inside in
    let slots = q.views.items in
    let ex = rw c.deref_mut.ensures.value at c.exchange.ensures in
    reordered q.index.count _ slots c.exchange.new.views ex q.most _ (written_over q.views.len slots c.exchange.new.views q.views.ok.0 ex.size) c.args.self.now c.self.view_is
