use Rattle.std.proofs.Common.{List, [], ◌∷◌, ◌++◌, sym, ◌∙◌, subst}
use Rattle.cache_ident.specs.declared.idents.Ident.{Ident}
use Rattle.board_checks.specs.desc_stores.specs.Contents.{item_as}
use Rattle.board_core.specs.cached_machine.specs.Cached.{state_of}
use Rattle.board_calls.specs.Leaving.{after_grant, goes_so, passes, AddsThose, IsOf}
use Rattle.board_calls.proofs.LoopLaws.{each_came, passing_one, passing_past}
use Rattle.board_calls.proofs.leaving.add_unfit_among.Goals as goal

pub returns : goal.returns
returns c =
    let loop = c.loop-ident in
    let test = λ (i : Ident). passes (goes_so (after_grant (state_of c.args.machine.now) c.args.grant.now) c.args.lacks) (item_as c.args.machine.now.held.contents i) in
    let all = each_came c.args.rows c.into_iter-ident-iterator.result (cc) loop.yielded _ loop.yielded_by _ _ c.next.ensures.steps c.in-None.is in
    subst (λ (gone : List Ident). AddsThose (IsOf test gone) c.args.idents.now.items loop.idents.items) all loop.invariant

pub loop-ident-preserved-in-Continue-1 : goal.loop-ident-preserved-in-Continue-1
loop-ident-preserved-in-Continue-1 c =
    let test = λ (i : Ident). passes (goes_so (after_grant (state_of c.args.machine.now) c.args.grant.now) c.args.lacks) (item_as c.args.machine.now.held.contents i) in
    let loop = c.loop-ident in
    subst (λ (now : List Ident). AddsThose (IsOf test (loop.yielded ++ c.in-Some.ident ∷ [])) c.args.idents.now.items now) (sym c.in_ok-push.ensures.items)
    (passing_one test loop.yielded c.args.idents.now.items loop.idents.items c.in-Some.ident (sym c.goes.ensures ∙ c.if-goes.true) loop.invariant)

pub loop-ident-preserved : goal.loop-ident-preserved
loop-ident-preserved c =
    let test = λ (i : Ident). passes (goes_so (after_grant (state_of c.args.machine.now) c.args.grant.now) c.args.lacks) (item_as c.args.machine.now.held.contents i) in
    let loop = c.loop-ident in
    passing_past test loop.yielded c.args.idents.now.items loop.idents.items c.in-Some.ident (sym c.goes.ensures ∙ c.if-goes.false) loop.invariant
