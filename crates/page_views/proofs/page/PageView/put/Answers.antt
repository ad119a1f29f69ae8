-- The part reaches over what is put.
use Rattle.std.proofs.Common.{◌+◌, ◌≤◌, arith}
use Rattle.rv32_exec.specs.Pages.{size_of}
use Rattle.page_views.specs.Parts.{AreAlikeBut, IsWithinPage}
use Rattle.page_views.proofs.Parts.{alike_put}
use Rattle.page_views.proofs.page.PageView.put.Goals as goal

pub invariant_of-self : goal.invariant_of-self
invariant_of-self c =
    let body = c.deref_mut-body.result.now in
    let end : c.args.at + size_of c.args.width ≤ c.reach.new.self.to = omega (arith, c.reach.ensures.to, c.size.ensures) in
    let before : AreAlikeBut body.changed body.first body.present × IsWithinPage body.changed = rw c.deref_mut-body.ensures.value c.self.invariant in
    (alike_put body.changed c.reach.new.self body.first body.present _ (size_of c.args.width) c.args.at c.args.value c.reach.ensures.over c.reach.ensures.from end c.put_number.ensures before.0, c.reach.ensures.within)
