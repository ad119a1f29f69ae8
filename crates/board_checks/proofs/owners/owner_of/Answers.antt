use Rattle.std.proofs.Common.{◌∙◌}
use Rattle.board_checks.proofs.OwnerLemmas.{kernel_owned, row_owned, space_owned, thread_owned}
use Rattle.board_checks.proofs.owners.owner_of.Goals as goal

pub returns-in-Kernel : goal.returns-in-Kernel
returns-in-Kernel c = kernel_owned c.args.tables.now.contents c.are_sound.ensures.sound.1.whole.one c.args.item c.requires.there c.in-Kernel.field-0 c.in-Kernel.is

pub returns-in-Space : goal.returns-in-Space
returns-in-Space c = space_owned c.args.tables.now.contents c.are_sound.ensures.sound.1.whole.one c.args.item c.requires.there c.in-Space.space c.in-Space.is

pub returns-in-Thread : goal.returns-in-Thread
returns-in-Thread c = c.kernel_of.ensures ∙ thread_owned c.args.tables.now.contents c.are_sound.ensures.sound.1.whole.one c.args.item c.requires.there c.in-Thread.thread c.in-Thread.is

pub returns-in-Mapping : goal.returns-in-Mapping
returns-in-Mapping c = c.kernel_of-in-Mapping.ensures ∙ row_owned c.args.tables.now.contents c.are_sound.ensures.sound.1.whole.one c.args.item c.requires.there c.in-Mapping.row c.in-Mapping.is
