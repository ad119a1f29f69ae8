use Rattle.std.proofs.Common.{◌↔◌, true, false, Contains, subst}
use Rattle.cache_ident.specs.declared.idents.Ident.{Ident}
use Rattle.board_checks.specs.desc_stores.specs.Contents.{item_as}
use Rattle.board_core.specs.store_residents.specs.Frames.{IsResidentOn}
use Rattle.board_checks.specs.desc_tables.specs.Tables.{Held}
use Rattle.board_core.specs.cached_machine.specs.Cached.{state_of}
use Rattle.board_calls.specs.Leaving.{after_grant, goes_so, passes, IsOf, IsRowAs}
use Rattle.board_calls.proofs.LoopLaws.{adds_more}
use Rattle.board_calls.proofs.RowLaws.{both_listed}
use Rattle.board_calls.proofs.leaving.add_unfit_of.Goals as goal

pub returns : goal.returns
returns c =
    let contents = c.args.machine.now.held.contents in
    let test = goes_so (after_grant (state_of c.args.machine.now) c.args.grant.now) c.args.lacks in
    let messages = c.message_rows.result in
    let others = c.other_rows.result in
    let first = subst (λ (h : Held). (i : Ident) → Contains messages i ↔ IsResidentOn h.contents c.args.frame true i) c.tables-tables.ensures.tables c.message_rows.ensures.rows in
    let second = subst (λ (h : Held). (i : Ident) → Contains others i ↔ IsResidentOn h.contents c.args.frame false i) c.tables-tables.ensures.tables c.other_rows.ensures.rows in
    adds_more (IsOf (λ (i : Ident). passes test (item_as contents i)) messages) (IsOf (λ (i : Ident). passes test (item_as contents i)) others) (IsRowAs contents c.args.frame test)
    c.args.idents.now.items c.add_unfit_among.new.idents.items c.add_unfit_among-2.new.idents.items
    (both_listed contents c.known.ensures.one c.args.frame test messages others first second)
    c.in_ok-add_unfit_among.ensures c.in_ok-add_unfit_among-2.ensures
