use Rattle.alone_run.specs.board_commits.proofs.CopyLaws.{all_of}
use Rattle.worked_runs.proofs.late_tests.has_run_ahead.Goals as goal

pub returns : goal.returns
returns c =
    let board = c.args.board.now in
    all_of board.journal.entries c.args.ticket.now.thread c.page-paged.new.quantum c.run-call.new.self c.run-call.ensures.copies (c.page-paged.ensures.views c.begin.ensures)
