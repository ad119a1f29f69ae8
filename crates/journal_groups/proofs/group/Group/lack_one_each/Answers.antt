use Rattle.std.proofs.Common.{◌+◌, List, sym, subst}
use Rattle.std.proofs.lemmas.Bool.{false≢true}
use Rattle.journal_groups.specs.declared.gone.Gone.{Gone}
use Rattle.journal_groups.specs.Leaving.{LackOneEach}
use Rattle.journal_groups.proofs.Lacking.{LackTo, lack_more, has_all}
use Rattle.journal_groups.proofs.group.Group.lack_one_each.Goals as goal

pub loop-gone-preserved : goal.loop-gone-preserved
loop-gone-preserved c = λ rs those.
    let all = c.deref-gone-items.result.now in
    let n = c.loop-gone.gone-index in
    let before = subst (λ (gs : List Gone). LackTo c.args.flat.now rs gs n) (sym c.deref-gone-items.ensures.value) (c.loop-gone.invariant rs those) in
    subst (λ (gs : List Gone). LackTo c.args.flat.now rs gs (n + 1)) c.deref-gone-items.ensures.value
    (lack_more c.args.flat.now rs all n _ c.loop-gone-test.true before (c.if-has_parents.ensures rs those))

pub returns-then-has_parents : goal.returns-then-has_parents
returns-then-has_parents c = λ rs those. (
  λ e. absurd (false≢true e),
  λ lack. absurd (has_all c.args.flat.now rs c.deref-gone-items.result.now c.loop-gone.gone-index _ c.loop-gone-test.true (c.if-has_parents.ensures rs those)
      (subst (λ (gs : List Gone). LackOneEach c.args.flat.now rs gs) (sym c.deref-gone-items.ensures.value) lack)),
)
