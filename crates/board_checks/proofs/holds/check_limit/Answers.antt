use Rattle.std.proofs.Common.{sym, ◌∙◌, ap}
use Rattle.std.specs.Option.{option_and_then}
use Rattle.board_ops.specs.flat_state.specs.Dependence.{owner}
use Rattle.desc_tables.specs.desc_stores.specs.Items.{shown}
use Rattle.desc_tables.specs.store_residents.proofs.KindLemmas.{loaded_live}
use Rattle.desc_tables.specs.desc_parents.specs.Seen.{seen}
use Rattle.board_checks.specs.Refusals.{at_limit}
use Rattle.board_checks.proofs.GivenLemmas.{loaded_content}
use Rattle.board_checks.proofs.HoldLemmas.{held_as, locked_tested, owner_there, unlocked_tested}
use Rattle.board_checks.proofs.IdentifierLemmas.{item_resident}
use Rattle.board_checks.proofs.holds.check_limit.Goals as goal

pub is_locked-requires : goal.is_locked-requires
is_locked-requires c = loaded_live c.args.tables.now.contents c.are_sound.ensures.sound.1.whole.one.sound c.args.ident (item_resident c.args.tables.now.contents c.args.ident c.are_sound.ensures.sound.1.whole.one (shown c.args.item) c.requires).0 (held_as c.args.tables.now.contents c.args.ident _ (item_resident c.args.tables.now.contents c.args.ident c.are_sound.ensures.sound.1.whole.one (shown c.args.item) c.requires))

pub returns-then-is_locked : goal.returns-then-is_locked
returns-then-is_locked c = locked_tested c.args.tables.now c.are_sound.ensures.sound.0 c.are_sound.ensures.sound.1 c.args.ident (item_resident c.args.tables.now.contents c.args.ident c.are_sound.ensures.sound.1.whole.one (shown c.args.item) c.requires).0 (held_as c.args.tables.now.contents c.args.ident _ (item_resident c.args.tables.now.contents c.args.ident c.are_sound.ensures.sound.1.whole.one (shown c.args.item) c.requires)) c.is_locked.result c.is_locked.ensures c.if-is_locked.true

pub check_locks_left-requires : goal.check_locks_left-requires
check_locks_left-requires c = owner_there c.args.tables.now c.are_sound.ensures.sound.0 c.are_sound.ensures.sound.1 c.args.ident (item_resident c.args.tables.now.contents c.args.ident c.are_sound.ensures.sound.1.whole.one (shown c.args.item) c.requires).0 (held_as c.args.tables.now.contents c.args.ident _ (item_resident c.args.tables.now.contents c.args.ident c.are_sound.ensures.sound.1.whole.one (shown c.args.item) c.requires)) c.in-Some.kernel (ap (owner (seen c.args.tables.now.contents)) (item_resident c.args.tables.now.contents c.args.ident c.are_sound.ensures.sound.1.whole.one (shown c.args.item) c.requires).3 ∙ sym c.in-Some.ensures)

pub returns-in-Some : goal.returns-in-Some
returns-in-Some c =
    c.check_locks_left.ensures
    ∙ ap (option_and_then (at_limit c.args.tables.now.contents c.args.ident.kind)) (c.in-Some.ensures ∙ ap (owner (seen c.args.tables.now.contents)) (sym (item_resident c.args.tables.now.contents c.args.ident c.are_sound.ensures.sound.1.whole.one (shown c.args.item) c.requires).3))
    ∙ unlocked_tested c.args.tables.now c.are_sound.ensures.sound.0 c.are_sound.ensures.sound.1 c.args.ident (item_resident c.args.tables.now.contents c.args.ident c.are_sound.ensures.sound.1.whole.one (shown c.args.item) c.requires).0 (held_as c.args.tables.now.contents c.args.ident _ (item_resident c.args.tables.now.contents c.args.ident c.are_sound.ensures.sound.1.whole.one (shown c.args.item) c.requires)) c.is_locked.result c.is_locked.ensures c.if-is_locked.false

pub returns-in-None : goal.returns-in-None
returns-in-None c =
    ap (option_and_then (at_limit c.args.tables.now.contents c.args.ident.kind)) (c.in-None.ensures ∙ ap (owner (seen c.args.tables.now.contents)) (sym (item_resident c.args.tables.now.contents c.args.ident c.are_sound.ensures.sound.1.whole.one (shown c.args.item) c.requires).3))
    ∙ unlocked_tested c.args.tables.now c.are_sound.ensures.sound.0 c.are_sound.ensures.sound.1 c.args.ident (item_resident c.args.tables.now.contents c.args.ident c.are_sound.ensures.sound.1.whole.one (shown c.args.item) c.requires).0 (held_as c.args.tables.now.contents c.args.ident _ (item_resident c.args.tables.now.contents c.args.ident c.are_sound.ensures.sound.1.whole.one (shown c.args.item) c.requires)) c.is_locked.result c.is_locked.ensures c.if-is_locked.false

pub owner_of-requires : goal.owner_of-requires
owner_of-requires c = record { there = loaded_content c.args.tables.now.contents c.are_sound.ensures.sound.1.whole.one c.args.ident (shown c.args.item) c.requires }
