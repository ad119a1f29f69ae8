use Rattle.app_kernel.proofs.ReachLaws.{learnt_owned}
use Rattle.app_kernel.proofs.GentleCalls.{known_learnt}
use Rattle.app_kernel.proofs.walk.learn_reached.Goals as goal

pub returns-in-Nothing-clause-owned : goal.returns-in-Nothing-clause-owned
returns-in-Nothing-clause-owned c = λ b owned passes. learnt_owned c.learn_space.result c.args.owners.now c.learn_space.new.self c.args.space c.args.thread c.learn_space.ensures.ok c.learn_space.ensures.err b owned (passes c.in-Nothing.is)

pub returns-in-Nothing-clause-known : goal.returns-in-Nothing-clause-known
returns-in-Nothing-clause-known c = known_learnt c.learn_space.result c.args.owners.now c.learn_space.new.self c.args.space c.args.thread c.learn_space.ensures.ok c.learn_space.ensures.err
