use Rattle.std.proofs.Common.{List, subst, take, take_all}
use Rattle.flat_state.specs.declared.events.Decl.{Decl}
use Rattle.owners.specs.Telling.{AreNewOwners}
use Rattle.owners.proofs.Hearing.{heard_one_more, nothing_heard}
use Rattle.owners.proofs.Opened.{owners_of_opening}
use Rattle.owners.proofs.owners.Owners.new.Goals as goal

pub loop-decl-init : goal.loop-decl-init
loop-decl-init c = nothing_heard _ c.new.ensures.empty c.new-2.ensures.empty c.new-3.ensures.empty c.new-4.ensures.items c.new-5.ensures.empty

pub loop-decl-preserved : goal.loop-decl-preserved
loop-decl-preserved c =
    heard_one_more c.args.decls.now c.loop-decl.decl-index _ c.hear.new.self c.loop-decl-test.true (c.in_ok-hear.ensures (take c.loop-decl.decl-index c.args.decls.now) c.loop-decl.invariant)

pub returns-clause-told : goal.returns-clause-told
returns-clause-told c = subst (λ (ds : List Decl). AreNewOwners ds c.loop-decl.owners) (take_all c.loop-decl.decl-index c.args.decls.now c.loop-decl-test.false) c.loop-decl.invariant

pub returns-clause-owners : goal.returns-clause-owners
returns-clause-owners c = owners_of_opening c.args.decls.now c.loop-decl.owners (subst (λ (ds : List Decl). AreNewOwners ds c.loop-decl.owners) (take_all c.loop-decl.decl-index c.args.decls.now c.loop-decl-test.false) c.loop-decl.invariant)
