use Rattle.proc_run.proofs.Opened.{run_on}
use Rattle.proc_run.proofs.run.run_on_one.Goals as goal

pub run_alone-requires-clause-owners : goal.run_alone-requires-clause-owners
run_alone-requires-clause-owners c =
    let begins = c.requires.begins in
    c.in_ok-owners.ensures.owners c.args.board.now.journal.entries begins.0 c.holds.ensures.sound.told.legal begins.1

pub returns : goal.returns
returns c = run_on c.args.decls.now 0 c.args.board.now c.run_alone.new.board c.requires.begins c.run_alone.ensures.grew c.holds-2.ensures.sound c.in_ok-run_alone.ensures.over
