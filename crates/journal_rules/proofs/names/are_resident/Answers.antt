use Rattle.std.proofs.Common.{◌≡◌, length, refl, subst, arith}
use Rattle.std.proofs.lemmas.Bool.{false≢true}
use Rattle.journal_rules.proofs.Naming.{AreResidentTo, resident_none, resident_more, resident_all, lacks_at}
use Rattle.journal_rules.proofs.names.are_resident.Goals as goal

pub loop-name-init : goal.loop-name-init
loop-name-init c = λ rs those. resident_none rs c.args.names.now

pub loop-name-preserved : goal.loop-name-preserved
loop-name-preserved c = λ rs those.
    resident_more rs c.args.names.now c.loop-name.name-index _ c.loop-name-test.true (c.loop-name.invariant rs those) ((c.if-not-is_named.ensures rs those).0 refl)

pub returns-then-not-is_named : goal.returns-then-not-is_named
returns-then-not-is_named c = λ rs those.
    lacks_at rs c.args.names.now c.loop-name.name-index _ c.loop-name-test.true (λ found. false≢true ((c.if-not-is_named.ensures rs those).1 found))

pub returns : goal.returns
returns c = λ rs those.
    let whole : c.loop-name.name-index ≡ length c.args.names.now = omega arith in
    resident_all rs c.args.names.now (subst (λ n. AreResidentTo rs c.args.names.now n) whole (c.loop-name.invariant rs those))
