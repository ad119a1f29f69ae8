use Rattle.std.proofs.Common.{◌≡◌, length, subst, arith}
use Rattle.std.proofs.lemmas.List.{get_or_default}
use Rattle.cache_ident.specs.contracts.names.NameOrd.TheImpl.Laws as name_laws
use Rattle.residents.proofs.NameLemmas.{name_cmp, same_name}
use Rattle.residents.proofs.PairLemmas.{other_pair, added_none, added_more, all_added, AreAdded}
use Rattle.residents.proofs.dependents.Dependents.add.Goals as goal

pub loop-parent-init : goal.loop-parent-init
loop-parent-init c = added_none name_cmp same_name name_laws.total-law c.args.self.now.pairs c.args.child c.args.parents.now

pub loop-parent-preserved : goal.loop-parent-preserved
loop-parent-preserved c =
    let updates = c.in_ok-insert.ensures.updates in
    added_more name_cmp same_name name_laws.total-law c.args.self.now.pairs c.loop-parent.self.pairs c.insert.new.self c.args.child c.args.parents.now c.loop-parent.parent-index c.loop-parent-test.true _
    (λ d. get_or_default c.args.parents.now c.loop-parent.parent-index d _ c.loop-parent-test.true)
    (record { here = updates.1; others = λ q other. updates.2 q (other_pair name_cmp same_name name_laws.total-law _ q other) })
    c.loop-parent.invariant

pub returns : goal.returns
returns c =
    let whole : c.loop-parent.parent-index ≡ length c.args.parents.now = omega arith in
    all_added name_cmp same_name name_laws.total-law c.args.self.now.pairs c.loop-parent.self.pairs c.args.child c.args.parents.now
    (subst (λ n. AreAdded name_cmp same_name name_laws.total-law c.args.self.now.pairs c.loop-parent.self.pairs c.args.child c.args.parents.now n) whole c.loop-parent.invariant)
