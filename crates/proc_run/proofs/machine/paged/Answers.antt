use Rattle.std.proofs.Common.{ℕ, Some, subst}
use Rattle.flat_state.specs.Events.{flat}
use Rattle.run_journal.specs.Entries.{erase}
use Rattle.paged_run.specs.Runs.{IsPagedRun}
use Rattle.proc_run.proofs.machine.paged.Goals as goal

pub returns : goal.returns
returns c bs is_scenario =
    let run = c.in_ok-run.run' in (
      c.args.decls.now,
      is_scenario,
      subst (λ (limit : ℕ). IsPagedRun c.args.decls.now limit run.journal.entries run.settled run.report.items (Some (flat (erase run.journal.entries)).memory)) c.from.ensures c.in_ok-run.ensures,
    )
