use Rattle.std.proofs.Common.{Bool, sym, arith}
use Rattle.std.specs.Prelude.{◌==◌}
use Rattle.flat_state.specs.Settling.{settled_of}
use Rattle.flat_rules.proofs.Standings.{stands_ended, stands_first_stuck, stands_stuck, stands_runnable, stands_going, stands_whole}
use Rattle.flat_rules.proofs.settling.settled.Goals as goal
use Rattle.flat_rules.proofs.settling.settled.Goals.{in-Done, in-Stalled, in-Done-matches, in_default, in-Stalled+else-matches, in-Spent}

pub loop-at-preserved : goal.loop-at-preserved
loop-at-preserved g c =
    let s = (g.T.Records.state c.args.tables.now) in
    let spent : Bool = c.args.steps == c.args.limit in
    let k = c.loop-at.at in
    let t = g.T.Records.shown c.thread_at.result.now in
    let x = c.loop-at.settled in
    let here = c.thread_at.ensures.thread in
    let before = c.loop-at.invariant in
    elim c.match-settled_by.branch [
      | in-Done w ↦ rw w.settled-is (record { stands = stands_ended s spent k t here x (sym w.in-Done.ensures) before.stands; over = before.over })
      | in-Stalled w ↦ elim w.match-matches.branch [
        | in-Done-matches w' ↦ rw w.settled-is (record { stands = stands_first_stuck s spent k t here (sym w.in-Stalled.ensures) (rw w'.in-Done-matches.is at before.stands); over = λ e. cc })
        | in_default w' ↦ absurd (cc)
      ]
      | in-Stalled+else-matches w ↦ elim w.match-matches.branch [
        | in-Done-matches w' ↦ absurd (cc)
        | in_default w' ↦ rw w.settled-is (record { stands = stands_stuck s spent k t here x (sym w.in-Stalled.ensures) w'.in_default.not-Done before.over before.stands; over = before.over })
      ]
      | in-Spent w ↦ rw w.settled-is (record { stands = stands_runnable s spent k t here x (sym w.in-Spent.ensures) before.over before.stands; over = λ e. cc })
    ]

pub returns-in-Running : goal.returns-in-Running
unfolding settled_of
returns-in-Running g c = stands_going (g.T.Records.state c.args.tables.now) (c.args.steps == c.args.limit) c.loop-at.at _ c.thread_at.ensures.thread (sym c.in-Running.ensures)

pub returns : goal.returns
returns g c = stands_whole (g.T.Records.state c.args.tables.now) c.args.steps c.args.limit c.loop-at.at c.loop-at.settled (omega arith) c.loop-at.invariant.stands
