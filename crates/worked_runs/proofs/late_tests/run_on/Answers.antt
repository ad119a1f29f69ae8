use Rattle.worked_runs.proofs.late_tests.run_on.Goals as goal

pub run_alone-requires-clause-sealed : goal.run_alone-requires-clause-sealed
run_alone-requires-clause-sealed g c =
    let owners = c.args.scene.now.owners in
    (c.refusal_of_late_commit-refused.ensures owners (c.load_thread.ensures owners c.requires)).sealed

pub run_alone-requires-clause-owners : goal.run_alone-requires-clause-owners
run_alone-requires-clause-owners g c =
    let owners = c.args.scene.now.owners in
    (c.refusal_of_late_commit-refused.ensures owners (c.load_thread.ensures owners c.requires)).owners
