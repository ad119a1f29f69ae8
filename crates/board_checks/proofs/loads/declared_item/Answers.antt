use Rattle.std.proofs.Common.{Some, None}
use Rattle.board_checks.proofs.OwnerLemmas.{declared_tested}
use Rattle.board_checks.proofs.loads.declared_item.Goals as goal

pub returns-in-Some-clause-exact : goal.returns-in-Some-clause-exact
returns-in-Some-clause-exact c = declared_tested c.args.tables.now.contents c.are_sound.ensures.sound.1.whole.one c.args.name (Some c.in-Some.found.item) c.in-Some.ensures.content

pub returns-in-None-clause-exact : goal.returns-in-None-clause-exact
returns-in-None-clause-exact c = declared_tested c.args.tables.now.contents c.are_sound.ensures.sound.1.whole.one c.args.name None c.in-None.ensures.content
