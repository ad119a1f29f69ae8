-- The run stays a local run once its pause is noted.
use Rattle.std.proofs.Common.{◌≡◌, None, sym, ◌∙◌, subst}
use Rattle.quantum.specs.Ahead.{Ahead, ahead_over, standing}
use Rattle.quantum.specs.LocalRun.{IsLocalRun}
use Rattle.quantum.specs.Made.{IsMade}
use Rattle.quantum.proofs.Committing.{local_run}
use Rattle.quantum.proofs.Copies.{run_copies}
use Rattle.quantum.proofs.Going.{made_run, run_anew}
use Rattle.quantum.proofs.Making.{made_paused, ready_where}
use Rattle.quantum.proofs.Signalling.{store_where}
use Rattle.quantum.proofs.ahead.Quantum.run.Goals as goal

pub invariant_of-self : goal.invariant_of-self
invariant_of-self c =
    let q = c.self.inside in
    let a : Ahead = ahead_over q.first q.context q.views q.steps q.paused in
    let begun : IsMade (record a { paused = None }) = made_paused a None c.self.invariant (sym (ready_where q.paused (sym c.standing.ensures ∙ c.in_default.is))) in
    rw c.note_recent.ensures (made_run c.args.limit (record a { paused = None }) _ c.go-steps.result.paused begun (c.go-steps.ensures q.first))

pub returns-in-Some-clause-local_run : goal.returns-in-Some-clause-local_run
returns-in-Some-clause-local_run c = subst IsLocalRun c.self.view_is (local_run _ c.self.invariant)

pub returns-clause-run : goal.returns-clause-run
returns-clause-run c =
    let q = c.self.inside in
    let a : Ahead = ahead_over q.first q.context q.views q.steps q.paused in
    let free : standing q.paused ≡ None = sym c.standing.ensures ∙ c.in_default.is in
    rw (← c.self.view_is, c.note_recent.ensures) (run_anew c.args.limit a _ c.go-steps.result.paused free (c.go-steps.ensures q.first))

pub returns-clause-local_run : goal.returns-clause-local_run
returns-clause-local_run c = local_run _ (invariant_of-self c)

pub returns-clause-copies : goal.returns-clause-copies
returns-clause-copies c = run_copies c.args.limit c.args.self.now _ c.go-steps.result.paused (returns-clause-run c)

pub returns-clause-store : goal.returns-clause-store
returns-clause-store c = store_where c.args.limit c.args.self.now _ c.go-steps.result.paused (returns-clause-run c)
