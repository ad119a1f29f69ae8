use Rattle.std.proofs.Common.{◌≡◌, take}
use Rattle.board_calls.specs.Departures.{HaveLeft}
use Rattle.board_calls.proofs.completions.unload_each.Given as goal

-- those before this one have left, and where there is none nothing happened
abbrev pub invariant-loop-ident : goal.invariant-loop-ident
invariant-loop-ident l = record { left : HaveLeft l.cpu (take l.ident-index l.idents) l.initial.core l.core; none : l.ident-index ≡ 0 → l.core ≡ l.initial.core }
