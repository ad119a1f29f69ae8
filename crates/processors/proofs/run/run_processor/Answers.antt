use Rattle.std.proofs.Common.{◌≤◌, ℕ, sym, ◌∙◌, subst}
use mathlib.Core.List.{IsPrefix}
use Rattle.turn_lock.specs.Passes.{seen_of}
use Rattle.alone_run.specs.run_journal.specs.Entries.{steps_in}
use Rattle.alone_run.specs.cache_board.specs.Pasts.{entries_of}
use Rattle.alone_run.specs.board_turns.specs.Looks.{IsIdle}
use Rattle.processors.specs.Stops.{OnIdle, OnSpent}
use Rattle.processors.proofs.Stopping.{stopped_idle, stopped_spent}
use Rattle.processors.proofs.run.run_processor.Goals as goal

pub returns-clause-lock : goal.returns-clause-lock
returns-clause-lock g c = c.into_pass-pass.ensures.lock ∙ c.take_turns-stop.ensures.continued.lock ∙ c.new-port.ensures.lock

pub returns-clause-range : goal.returns-clause-range
returns-clause-range g c =
    let more = c.take_turns-stop.ensures.continued in
    let back = c.into_pass-pass.ensures.range in
    let begins = c.new-port.ensures.range in
    (back.0 ∙ more.cpu ∙ begins.0, back.1 ∙ more.end ∙ begins.1)

pub returns-clause-begins : goal.returns-clause-begins
returns-clause-begins g c =
    let old = subst (λ seen. IsPrefix seen c.take_turns-stop.new.port.seen) c.new-port.ensures.seen c.take_turns-stop.ensures.continued.seen in
    subst (λ seen. IsPrefix (seen_of c.args.pass) seen) (sym c.into_pass-pass.ensures.seen) old

pub returns-clause-idle : goal.returns-clause-idle
returns-clause-idle g c =
    let port = c.take_turns-stop.new.port in
    subst (λ seen. OnIdle c.take_turns-stop.result (IsIdle (entries_of seen))) (sym c.into_pass-pass.ensures.seen)
    (stopped_idle c.take_turns-stop.result port.cpu port.limit (entries_of port.seen) c.take_turns-stop.ensures.so)

pub returns-clause-spent : goal.returns-clause-spent
returns-clause-spent g c =
    let port = c.take_turns-stop.new.port in
    let limit = c.take_turns-stop.ensures.continued.limit ∙ c.new-port.ensures.limit in
    subst (λ seen. OnSpent c.take_turns-stop.result (c.args.limit ≤ steps_in (entries_of seen))) (sym c.into_pass-pass.ensures.seen)
    (subst (λ (n : ℕ). OnSpent c.take_turns-stop.result (n ≤ steps_in (entries_of port.seen))) limit
    (stopped_spent c.take_turns-stop.result port.cpu port.limit (entries_of port.seen) c.take_turns-stop.ensures.so))
