use Rattle.std.proofs.Common.{◌≡◌, take, find, None}
use Rattle.board_commits.specs.Refusals.{is_gone}
use Rattle.board_commits.proofs.commits.check_rows.Given as goal

-- none of those before this one is gone
abbrev pub invariant-loop-view : goal.invariant-loop-view
invariant-loop-view l = find (is_gone l.tables.contents) (take l.view-index l.views) ≡ None
