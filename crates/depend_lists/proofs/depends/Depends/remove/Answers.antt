use Rattle.std.proofs.Common.{◌≡◌, false, not, length, ap, ◌∙◌, arith}
use Rattle.std.proofs.lemmas.List.Edits.{length-remove}
use Rattle.cache_ident.specs.declared.idents.Ident.{Ident}
use Rattle.cache_ident.specs.Rolls.{is_same}
use Rattle.cache_ident.proofs.RollLemmas.{is_same-refl}
use Rattle.depend_lists.specs.declared.nodes.Node.{Node}
use Rattle.depend_lists.specs.Pairs.{without}
use Rattle.sorted_list.proofs.ListLemmas.{filter-remove}
use Rattle.depend_lists.proofs.depends.Depends.remove.Goals as goal

-- a pair with the child was taken out, and no other
pub loop-parent-preserved : goal.loop-parent-preserved
loop-parent-preserved c =
    let child = c.args.child in
    let pair : Ident × Node = (c.in-Some.parent, c.in-Some.node) in
    let taken = c.take.ensures.pairs in
    let fails : not (is_same c.in-Some.node.ident child) ≡ false = ap (λ (i : Ident). not (is_same i child)) c.in-Some.ensures.some.1 ∙ ap not (is_same-refl child) in
    (c.take.ensures.caps ∙ c.loop-parent.invariant.0, ap (λ pairs. without pairs child) taken.3 ∙ filter-remove (λ p. not (is_same p.1.ident child)) c.loop-parent.self.pairs taken.0 pair taken.1 taken.2 fails ∙ c.loop-parent.invariant.1)

-- so the pairs are fewer
pub loop-parent-smaller : goal.loop-parent-smaller
loop-parent-smaller c =
    let taken = c.take.ensures.pairs in
    omega (arith, ap length taken.3, length-remove c.loop-parent.self.pairs taken.0 taken.1)
