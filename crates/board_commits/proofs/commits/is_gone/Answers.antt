use Rattle.std.proofs.Common.{ap, ◌∙◌}
use Rattle.board_threads.specs.desc_stores.specs.Contents.{item_as}
use Rattle.board_commits.proofs.ThreadLaws.{gone_if}
use Rattle.board_commits.proofs.commits.is_gone.Goals as goal

pub returns : goal.returns
returns c =
    gone_if c.args.tables.now.contents c.are_sound.ensures.sound.1.whole.one c.args.view.now.row c.get.result (c.get.ensures ∙ ap (item_as c.args.tables.now.contents) c.row.ensures) c.is_none.result c.is_none.ensures
