use Rattle.std.proofs.Common.{◌≡◌, take, find, None}
use Rattle.board_commits.specs.Refusals.{is_changed}
use Rattle.board_commits.proofs.commits.check_contents.Given as goal

-- none of those before this one is changed
abbrev pub invariant-loop-view : goal.invariant-loop-view
invariant-loop-view l = find (is_changed l.core.machine.memory) (take l.view-index l.views) ≡ None
