use Rattle.rv32_exec.proofs.StepChanges.{missed-map}
use Rattle.flat_events.proofs.RunLaws.{ran_in, ran_unchanged}
use Rattle.flat_events.proofs.steps.run_in.Goals as goal

pub returns-clause-ran : goal.returns-clause-ran
returns-clause-ran g c =
    ran_in (g.T.Records.state c.args.tables.now) (g.T.Records.state c.run_through-stepped.new.tables) c.holds.ensures c.holds-2.ensures c.args.space 0 c.run_through-stepped.ensures.kept c.args.context.now c.run_through-stepped.new.context c.run_through-stepped.result c.run_through-stepped.ensures.after

pub returns-clause-missed : goal.returns-clause-missed
returns-clause-missed g c =
    missed-map c.run_through-stepped.result (λ same. (same.0, ran_unchanged (g.T.Records.state c.args.tables.now) (g.T.Records.state c.run_through-stepped.new.tables) c.holds.ensures c.holds-2.ensures c.args.space 0 c.run_through-stepped.ensures.kept same.1)) c.run_through-stepped.ensures.missed
