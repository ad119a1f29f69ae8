use Rattle.std.proofs.Common.{◌≡◌, ◌&&◌, false, take}
use Rattle.std.specs.List.{list_any}
use Rattle.phys_groups.specs.declared.rows.Row.{Row}
use Rattle.flat_state.specs.Translation.{is_fit_row}
use Rattle.board_checks.specs.desc_stores.specs.Contents.{residents_of}
use Rattle.board_core.specs.cached_machine.specs.Cached.{state_of}
use Rattle.board_calls.specs.Leaving.{after_grant, is_absent}
use Rattle.board_calls.proofs.leaving.lacks_rows.Given as goal

-- none of those before this one is fit and absent
abbrev pub invariant-loop-row : goal.invariant-loop-row
invariant-loop-row l = list_any (λ (row : Row). is_fit_row (after_grant (state_of l.machine) l.grant) row && is_absent (residents_of l.machine.held.contents) row) (take l.row-index l.row-items) ≡ false
