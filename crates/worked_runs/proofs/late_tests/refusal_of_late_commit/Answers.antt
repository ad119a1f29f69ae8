use Rattle.worked_runs.proofs.Late.{views_on}
use Rattle.worked_runs.proofs.Owned.{owned_on}
use Rattle.worked_runs.proofs.late_tests.refusal_of_late_commit.Goals as goal

pub commit-requires : goal.commit-requires
commit-requires c =
    let out = c.checkout.new.self in
    let ran = c.has_run_ahead in
    record { views = views_on 1 out c.unload-unloaded.new.self c.in_ok-ticket.ticket.thread ran.new.quantum c.unload-unloaded.ensures.event ran.ensures }

pub returns : goal.returns
returns c = λ known was.
    let before = c.args.board.now in
    let out = c.checkout.new.self in
    let gone = c.unload-unloaded.new.self in
    owned_on c.in_ok-ticket.ticket.cpu gone c.commit.new.self known c.commit.ensures.event
    (owned_on 1 out gone known c.unload-unloaded.ensures.event (owned_on 0 before out known c.checkout.ensures.event was))
