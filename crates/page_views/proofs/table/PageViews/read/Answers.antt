-- What the view of the access reads is what its page reads.
use Rattle.std.proofs.Common.{Some, refl, ap, ◌∙◌}
use Rattle.rv32_exec.specs.Pages.{number_at}
use Rattle.page_views.proofs.Tables.{read_is}
use Rattle.page_views.proofs.table.PageViews.read.Goals as goal

pub returns-in-Some : goal.returns-in-Some
returns-in-Some c =
    rw (read_is c.args.self.now.views c.args.access c.args.va c.args.width, ← c.in-Some.ensures)
    (ap Some (c.number.ensures ∙ ap (number_at c.args.width c.in-Some.view.now.present) c.offset.ensures.offset))

pub returns-in-None : goal.returns-in-None
returns-in-None c = rw (read_is c.args.self.now.views c.args.access c.args.va c.args.width, ← c.in-None.ensures) refl
