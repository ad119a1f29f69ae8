use Rattle.std.proofs.Common.{◌≡◌, ◌++◌}
use Rattle.std.specs.Prelude.{replicate}
use Rattle.flat_state.specs.declared.events.Event.TheVariants.{Step}
use Rattle.run_journal.proofs.entries.push_steps.Given as goal

abbrev pub invariant-loop : goal.invariant-loop
invariant-loop l = l.events.items ≡ l.fn.events.items ++ replicate l.counter (Step l.thread)
