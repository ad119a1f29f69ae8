use Rattle.std.proofs.Common.{◌≤◌}
use Rattle.app_kernel.specs.left_laws.specs.Left.{left}
use Rattle.app_kernel.specs.owners.specs.Known.{Known}
use Rattle.app_kernel.specs.owner_ports.specs.Boards.{OnTold}
use Rattle.board_turns.specs.declared.found.Found.TheVariants.{Out}
use Rattle.board_turns.specs.Holds.{IsReadyFor}
use Rattle.board_turns.specs.Turning.{IsOnQuantum}
use Rattle.board_turns.proofs.quanta.run_quantum.Given as goal

abbrev pub invariant-loop-tried : goal.invariant-loop-tried
invariant-loop-tried g l = record {
  own : g.P.Processor.is_so l.port (Out l.ticket);
  ready : IsReadyFor (g.P.Processor.seen l.port) l.quantum (Out l.ticket);
  told : OnTold (g.P.Port.board l.fn.port) (g.P.Port.board l.port) (λ old now. (known : Known) → IsOnQuantum old known l.ticket → IsOnQuantum now known l.ticket × (left now ≤ left old));
  continued : g.P.Processor.continues l.fn.port l.port;
}

abbrev pub decreases-loop-tried : goal.decreases-loop-tried
decreases-loop-tried g l = l.most
