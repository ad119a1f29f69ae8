use Rattle.std.proofs.Common.{◌≡◌, length, subst, arith}
use Rattle.std.proofs.lemmas.List.{get_or_default}
use Rattle.residents.specs.contracts.relying.RelianceOrd.TheImpl.Laws as reliance_laws
use Rattle.residents.proofs.RelyLemmas.{reliance_cmp, same_reliance}
use Rattle.residents.proofs.PairLemmas.{other_pair, removed_none, removed_more, all_removed, AreRemoved}
use Rattle.residents.proofs.relying.RelyingRows.remove.Goals as goal

pub loop-reliance-init : goal.loop-reliance-init
loop-reliance-init c = removed_none reliance_cmp same_reliance reliance_laws.total-law c.args.self.now.pairs c.args.row c.args.reliances.now

pub loop-reliance-preserved : goal.loop-reliance-preserved
loop-reliance-preserved c =
    let updates = c.remove.ensures.updates in
    removed_more reliance_cmp same_reliance reliance_laws.total-law c.args.self.now.pairs c.loop-reliance.self.pairs c.remove.new.self c.args.row c.args.reliances.now c.loop-reliance.reliance-index c.loop-reliance-test.true _
    (λ d. get_or_default c.args.reliances.now c.loop-reliance.reliance-index d _ c.loop-reliance-test.true)
    (record { here = updates.1; others = λ q other. updates.2 q (other_pair reliance_cmp same_reliance reliance_laws.total-law _ q other) })
    c.loop-reliance.invariant

pub returns : goal.returns
returns c =
    let whole : c.loop-reliance.reliance-index ≡ length c.args.reliances.now = omega arith in
    all_removed reliance_cmp same_reliance reliance_laws.total-law c.args.self.now.pairs c.loop-reliance.self.pairs c.args.row c.args.reliances.now
    (subst (λ n. AreRemoved reliance_cmp same_reliance reliance_laws.total-law c.args.self.now.pairs c.loop-reliance.self.pairs c.args.row c.args.reliances.now n) whole c.loop-reliance.invariant)
