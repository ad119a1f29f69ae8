use Rattle.board_checks.proofs.HoldLemmas.{full_tested, left_tested}
use Rattle.desc_tables.specs.desc_groups.proofs.OwnerLemmas.{kernel_there}
use Rattle.board_checks.proofs.holds.check_locks_left.Goals as goal

pub unreachable-requires : goal.unreachable-requires
unreachable-requires c =
    let there = kernel_there c.args.tables.now.contents c.are_sound.ensures.sound.1.whole.one c.args.kernel c.requires in
    let some = there.1 in
    let none = c.in_default.ensures.absent in
    cc

pub returns-then-of-limit : goal.returns-then-of-limit
returns-then-of-limit c = left_tested c.args.tables.now c.are_sound.ensures.sound.0 c.are_sound.ensures.sound.1 c.args.kernel c.in-Some.found.now c.in-Some.ensures.found c.args.kind c.of.result c.of-limit.result c.of.ensures c.of-limit.ensures c.if-of-limit.true

pub returns : goal.returns
returns c = full_tested c.args.tables.now c.are_sound.ensures.sound.0 c.are_sound.ensures.sound.1 c.args.kernel c.in-Some.found.now c.in-Some.ensures.found c.args.kind c.of.result c.of-limit.result c.of.ensures c.of-limit.ensures c.if-of-limit.false
