use Rattle.alone_run.specs.cache_board.proofs.PastLaws.{made_by_numbers}
use Rattle.worked_runs.proofs.stop_tests.run_behind_the_lock.Goals as goal

pub new-requires : goal.new-requires
new-requires g c = made_by_numbers _ c.holds.ensures.sound
