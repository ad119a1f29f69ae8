use Rattle.std.proofs.Common.{sym, ◌∙◌}
use Rattle.std.specs.Prelude.{Err}
use Rattle.app_kernel.proofs.FindLaws.{tried_another, tried_its, tried_nothing}
use Rattle.app_kernel.proofs.GentleCalls.{mine_found, mine_told, noted_tries}
use Rattle.app_kernel.proofs.walk.try_space.Goals as goal

pub returns-in-Ok-clause-reached : goal.returns-in-Ok-clause-reached
returns-in-Ok-clause-reached g c = tried_its (g.P.Port.board c.args.port.now) (g.P.Port.board c.reach_both.new.port) c.args.owners.now c.reach_both.new.owners c.args.space c.args.thread c.args.trust c.reach_both.result c.reach_both.ensures.reached _ c.in-Ok.is

pub returns-in-Some-clause-reached : goal.returns-in-Some-clause-reached
returns-in-Some-clause-reached g c = tried_another (g.P.Port.board c.args.port.now) (g.P.Port.board c.reach_both.new.port) c.args.owners.now c.reach_both.new.owners c.args.space c.args.thread c.args.trust c.reach_both.result c.reach_both.ensures.reached c.in-Err.refused c.in-Some.told c.in-Err.is (sym c.in-Some.is ∙ c.space_told.ensures)

pub returns-in-None-clause-reached : goal.returns-in-None-clause-reached
returns-in-None-clause-reached g c = tried_nothing (g.P.Port.board c.args.port.now) (g.P.Port.board c.reach_both.new.port) c.args.owners.now c.reach_both.new.owners c.args.space c.args.thread c.args.trust c.reach_both.result c.reach_both.ensures.reached c.in-Err.refused c.in-Err.is (sym c.in-None.is ∙ c.space_told.ensures)

pub returns-in-Ok-clause-mine : goal.returns-in-Ok-clause-mine
returns-in-Ok-clause-mine g c = mine_found (g.P.Port.board c.args.port.now) (g.P.Port.board c.reach_both.new.port) c.args.owners.now c.reach_both.new.owners c.args.space c.args.thread c.reach_both.ensures.walked

pub returns-in-Some-clause-mine : goal.returns-in-Some-clause-mine
returns-in-Some-clause-mine g c =
    mine_told (g.P.Port.board c.args.port.now) (g.P.Port.board c.reach_both.new.port) c.args.owners.now c.reach_both.new.owners c.args.space c.args.thread c.args.trust c.reach_both.result c.in-Err.refused c.in-Some.told c.reach_both.ensures.reached c.in-Nothing.is c.in-Err.is (sym c.in-Some.is ∙ c.space_told.ensures)

pub returns-in-Noted-clause-reached : goal.returns-in-Noted-clause-reached
returns-in-Noted-clause-reached g c =
    noted_tries (g.P.Port.board c.args.port.now) (g.P.Port.board c.reach_both.new.port) c.args.owners.now c.reach_both.new.owners c.args.space c.args.thread c.args.trust c.reach_both.result (Err c.in-Err.refused) c.in-Noted.is c.reach_both.ensures.reached
