use Rattle.std.proofs.Common.{sym, subst}
use Rattle.cache_ident.specs.Residents.{IsResident}
use Rattle.desc_tables.specs.desc_stores.specs.Contents.{residents_of}
use Rattle.desc_tables.specs.desc_stores.specs.Items.{shown}
use Rattle.board_checks.proofs.HoldLemmas.{held_as, may_if}
use Rattle.board_checks.proofs.IdentifierLemmas.{item_live, item_resident}
use Rattle.board_checks.proofs.holds.check_lock.Goals as goal

pub returns-clause-live : goal.returns-clause-live
returns-clause-live c = item_live c.args.tables.now.contents c.args.ident c.are_sound.ensures.sound.1.whole.one (shown c.in_ok-item.item) c.in_ok-item.ensures.its

pub returns-clause-named : goal.returns-clause-named
returns-clause-named c = subst (IsResident (residents_of c.args.tables.now.contents) c.args.ident) (sym c.name.ensures) (item_resident c.args.tables.now.contents c.args.ident c.are_sound.ensures.sound.1.whole.one (shown c.in_ok-item.item) c.in_ok-item.ensures.its)

pub returns-clause-may : goal.returns-clause-may
returns-clause-may c =
    let r = item_resident c.args.tables.now.contents c.args.ident c.are_sound.ensures.sound.1.whole.one (shown c.in_ok-item.item) c.in_ok-item.ensures.its in
    may_if c.args.tables.now c.are_sound.ensures.sound.0 c.are_sound.ensures.sound.1 c.args.ident r.0 (held_as c.args.tables.now.contents c.args.ident _ r) c.in_ok-check_limit.ensures
