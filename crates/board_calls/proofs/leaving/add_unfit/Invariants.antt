use Rattle.board_calls.specs.Leaving.{AddsThose, IsRowInGroup}
use Rattle.board_calls.proofs.leaving.add_unfit.Given as goal

-- those of the first frames were added
abbrev pub invariant-loop-number : goal.invariant-loop-number
invariant-loop-number l = AddsThose (IsRowInGroup l.machine l.grant l.number) l.initial.idents.items l.idents.items
