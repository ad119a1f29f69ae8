use Rattle.cached_machine.proofs.BackLaws.{next_no_back}
use Rattle.cached_machine.proofs.posts.bring_back.Goals as goal

pub loop-no-preserved : goal.loop-no-preserved
loop-no-preserved c = next_no_back c.args.nos.now c.loop-no.no-index _ c.args.tables.now c.loop-no.tables c.send.new.tables c.loop-no-test.true c.loop-no.invariant c.send.ensures
