use Rattle.app_kernel.proofs.WalkLaws.{ok_at, told_learnt, walked_on}
use Rattle.app_kernel.proofs.rows.reach_signal_row.Goals as goal

pub returns-in_err-loaded_as-clause-walked : goal.returns-in_err-loaded_as-clause-walked
returns-in_err-loaded_as-clause-walked g c =
    walked_on (g.P.Port.board c.args.port.now) (g.P.Port.board c.reach_space.new.port) (g.P.Port.board c.ask_row.new.port) c.args.owners.now c.reach_space.new.owners c.learn_told.new.owners c.reach_space.ensures.walked
    (told_learnt (g.P.Port.board c.reach_space.new.port) (g.P.Port.board c.ask_row.new.port) c.reach_space.new.owners c.ask_row.new.owners c.learn_told.new.owners c.args.space c.args.vpn c.in_ok-answer.answer c.ask_row.ensures.walked c.in_ok-answer.ensures.told (ok_at c.learn_told.result _ c.in_ok-learn_told.was c.learn_told.ensures.learnt))

pub returns-clause-walked : goal.returns-clause-walked
returns-clause-walked g c =
    walked_on (g.P.Port.board c.args.port.now) (g.P.Port.board c.reach_space.new.port) (g.P.Port.board c.ask_row.new.port) c.args.owners.now c.reach_space.new.owners c.learn_told.new.owners c.reach_space.ensures.walked
    (told_learnt (g.P.Port.board c.reach_space.new.port) (g.P.Port.board c.ask_row.new.port) c.reach_space.new.owners c.ask_row.new.owners c.learn_told.new.owners c.args.space c.args.vpn c.in_ok-answer.answer c.ask_row.ensures.walked c.in_ok-answer.ensures.told (ok_at c.learn_told.result _ c.in_ok-learn_told.was c.learn_told.ensures.learnt))
