use Rattle.std.proofs.Common.{◌≡◌, length, refl, subst, arith}
use Rattle.std.proofs.lemmas.Bool.{false≢true}
use Rattle.journal_rules.proofs.Completing.{AreGoodTo, good_none, good_more, good_all, spoils_at}
use Rattle.journal_rules.proofs.calls.all_stay_good.Goals as goal

pub loop-name-init : goal.loop-name-init
loop-name-init c = λ rs those. good_none c.args.flat.now rs c.args.names.now

pub loop-name-preserved : goal.loop-name-preserved
loop-name-preserved c = λ rs those.
    good_more c.args.flat.now rs c.args.names.now c.loop-name.name-index _ c.loop-name-test.true (c.loop-name.invariant rs those) (λ r same. (c.if-not-stays_good.ensures rs those r same).0 refl)

pub returns-then-not-stays_good : goal.returns-then-not-stays_good
returns-then-not-stays_good c = λ rs those.
    spoils_at c.args.flat.now rs c.args.names.now c.loop-name.name-index _ c.loop-name-test.true (λ r same good. false≢true ((c.if-not-stays_good.ensures rs those r same).1 good))

pub returns : goal.returns
returns c = λ rs those.
    let whole : c.loop-name.name-index ≡ length c.args.names.now = omega arith in
    good_all c.args.flat.now rs c.args.names.now (subst (λ n. AreGoodTo c.args.flat.now rs c.args.names.now n) whole (c.loop-name.invariant rs those))
