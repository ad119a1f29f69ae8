use Rattle.std.proofs.Common.{◌≢◌, take}
use Rattle.std.specs.Prelude.{◌==◌}
use Rattle.flat_state.specs.declared.records.Settled.TheVariants.{Running}
use Rattle.flat_rules.proofs.Standings.{Stands}
use Rattle.flat_rules.proofs.settling.settled.Given as goal

-- as far as the threads before go, none of which goes on
abbrev pub invariant-loop-at : goal.invariant-loop-at
invariant-loop-at g l = record {
  stands : Stands (g.T.Records.state l.tables) (l.steps == l.limit) (take l.at (g.T.Records.state l.tables).threads) l.settled;
  over : l.settled ≢ Running;
}
