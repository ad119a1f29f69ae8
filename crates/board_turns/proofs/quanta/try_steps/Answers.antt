use Rattle.std.proofs.Common.{ℕ, ◌<◌, ◌≡◌, true, subst, ◌∙◌}
use Rattle.std.specs.Prelude.{IfSome}
use Rattle.board_turns.specs.Paces.{beat_of, paced, wants_first}
use Rattle.board_turns.proofs.Later.{views_later}
use Rattle.board_turns.proofs.Told.{told_tried}
use Rattle.board_turns.proofs.quanta.try_steps.Goals as goal

pub commit-requires-clause-views : goal.commit-requires-clause-views
commit-requires-clause-views g c =
    let ran = c.run_ahead-paused in
    let asked = c.ask_of-ask in
    views_later (g.P.Processor.seen ran.new.port) (g.P.Processor.seen asked.new.port) ran.new.quantum (g.met.P.Processor.grows ran.new.port asked.new.port asked.ensures.continued) c.args.ticket.now.thread ran.ensures.views

pub returns-clause-told : goal.returns-clause-told
returns-clause-told g c =
    let L = g.met.P.Processor in
    let before = c.args.port.now in
    let ran = c.run_ahead-paused in
    let asked = c.ask_of-ask in
    let after = c.commit.new.self in
    let look = c.look_behind-look.result in
    let whole = L.further before asked.new.port after (L.further before ran.new.port asked.new.port ran.ensures.continued asked.ensures.continued) c.commit.ensures.continued in
    let order = subst (λ (n : ℕ). IfSome look (λ want_first. (0 < n) × (want_first ≡ wants_first (paced true (beat_of c.args.pace))))) c.steps.ensures.steps c.look_behind-look.ensures in
    told_tried (g.P.Port.board before) (g.P.Port.board asked.new.port) (g.P.Port.board after) (g.P.Processor.progress before) (g.P.Processor.progress after) (beat_of c.args.pace) c.args.ticket.now ran.new.quantum look c.commit.new.next c.in_ok-committed.committed
    (asked.ensures.same ∙ ran.ensures.same) (L.grew before after whole) order c.in_ok-committed.ensures.told
