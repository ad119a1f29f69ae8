use Rattle.worked_runs.proofs.Owned.{owned_on}
use Rattle.worked_runs.proofs.scenes.load_thread.Goals as goal

pub returns : goal.returns
returns c = λ known was.
    let before = c.args.board.now in
    let first = c.load_space-space.new.self in
    let second = c.load_thread-thread.new.self in
    owned_on 0 second c.load_mapping-row.new.self known c.load_mapping-row.ensures.event
    (owned_on 0 first second known c.load_thread-thread.ensures.event (owned_on 0 before first known c.load_space-space.ensures.event was))
