use Rattle.std.proofs.Common.{◌≡◌, ◌++◌, take}
use Rattle.board_chains.proofs.chains.chain_of.Given as goal

-- the rows so far are behind the others
abbrev pub invariant-loop-row : goal.invariant-loop-row
invariant-loop-row l = record { items : l.chain.items ≡ l.initial.chain.items ++ take l.row-index l.rows }
