use Rattle.std.proofs.Common.{◌+◌, ◌<◌, sym, subst, arith}
use Rattle.board_threads.specs.Waiting.{IsFirstOf}
use Rattle.board_threads.proofs.CandidateLemmas.{busy_next, first_of_ready, free_next, IsFreeBelow}
use Rattle.board_threads.proofs.checkouts.first_of_ready.Goals as goal
use Rattle.board_threads.proofs.checkouts.first_of_ready.Goals.{in-Some-free_one+then-eq, in-Some-free_one+else-eq, in_default-free_one}

pub loop-init : goal.loop-init
loop-init c = λ candidate is. let never : candidate.no.0 < 0 = is.0 in absurd (omega arith)

pub returns-in_default : goal.returns-in_default
returns-in_default c = first_of_ready c.args.core.now c.loop.from c.in_default.ensures.first c.loop.first c.loop.invariant

pub loop-preserved : goal.loop-preserved
loop-preserved c =
    let b = c.args.core.now in
    elim c.match-free_one.branch [
      | in-Some-free_one+then-eq w ↦ subst (IsFirstOf (IsFreeBelow b (c.in-Some.no.0 + 1))) (sym w.first-is) (free_next b c.loop.from c.in-Some.no c.in-Some.ensures.first w.in-Some-free_one.free.candidate w.in-Some-free_one.ensures.free w.in-Some-free_one.ensures.named c.loop.first w.earlier-sooner.result c.loop.invariant w.earlier-sooner.ensures)
      | in-Some-free_one+else-eq w ↦ subst (IsFirstOf (IsFreeBelow b (c.in-Some.no.0 + 1))) (sym w.first-is) (free_next b c.loop.from c.in-Some.no c.in-Some.ensures.first w.in-Some-free_one.free.candidate w.in-Some-free_one.ensures.free w.in-Some-free_one.ensures.named c.loop.first w.earlier-sooner.result c.loop.invariant w.earlier-sooner.ensures)
      | in_default-free_one w ↦ subst (IsFirstOf (IsFreeBelow b (c.in-Some.no.0 + 1))) (sym w.first-is) (busy_next b c.loop.from c.in-Some.no c.in-Some.ensures.first w.in_default-free_one.ensures.none c.loop.first c.loop.invariant)
    ]

pub returns-in-None : goal.returns-in-None
returns-in-None c = first_of_ready c.args.core.now c.loop.from c.in-None.ensures.first c.loop.first c.loop.invariant
