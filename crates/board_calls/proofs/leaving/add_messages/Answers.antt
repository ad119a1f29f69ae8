use Rattle.std.proofs.Common.{◌↔◌, true, Contains, List, [], ◌∷◌, ◌++◌, refl, sym, subst}
use Rattle.cache_ident.specs.declared.idents.Ident.{Ident}
use Rattle.board_core.specs.store_residents.specs.Frames.{IsResidentOn}
use Rattle.board_checks.specs.desc_tables.specs.Tables.{Held}
use Rattle.board_calls.specs.Leaving.{is_message, AddsThose, IsOf, IsRowAs}
use Rattle.board_calls.proofs.LoopLaws.{adds_as, each_came, passing_one}
use Rattle.board_calls.proofs.RowLaws.{messages_listed}
use Rattle.board_calls.proofs.leaving.add_messages.Goals as goal

pub returns : goal.returns
returns c =
    let loop = c.loop-ident in
    let contents = c.args.machine.now.held.contents in
    let items = c.message_rows-ident-items.result in
    let all = each_came items c.into_iter-ident-iterator.result (cc) loop.yielded _ loop.yielded_by _ _ c.next.ensures.steps c.in-None.is in
    let rows = subst (λ (h : Held). (i : Ident) → Contains items i ↔ IsResidentOn h.contents c.args.frame true i) c.tables.ensures.tables c.message_rows-ident-items.ensures.rows in
    adds_as (IsOf (λ (i : Ident). true) loop.yielded) (IsRowAs contents c.args.frame is_message) c.args.idents.now.items loop.idents.items
    (subst (λ (gone : List Ident). (i : Ident) → IsOf (λ (j : Ident). true) gone i ↔ IsRowAs contents c.args.frame is_message i) (sym all) (messages_listed contents c.known.ensures.one c.args.frame items rows))
    loop.invariant

pub loop-ident-preserved : goal.loop-ident-preserved
loop-ident-preserved c =
    let loop = c.loop-ident in
    subst (λ (now : List Ident). AddsThose (IsOf (λ (i : Ident). true) (loop.yielded ++ c.in-Some.ident ∷ [])) c.args.idents.now.items now) (sym c.in_ok-push.ensures.items)
    (passing_one (λ (i : Ident). true) loop.yielded c.args.idents.now.items loop.idents.items c.in-Some.ident refl loop.invariant)
