use Rattle.std.proofs.Common.{refl, sym, ◌∙◌, get_or}
use Rattle.ready_queue.specs.declared.Candidate.{Candidate}
use Rattle.board_threads.specs.Tests.{goes_on}
use Rattle.board_threads.proofs.CandidateLemmas.{first_of_sorted, none_so_far}
use Rattle.board_threads.proofs.checkouts.first_runnable.Goals as goal

pub returns-then-is_runnable-clause-first : goal.returns-then-is_runnable-clause-first
returns-then-is_runnable-clause-first c =
    let xs = c.args.waiting.now in
    let i = c.loop-candidate.candidate-index in
    let here : Candidate = get_or xs i (record { no = record { 0 = 0 }; priority = 0; last = 0 }) in
    (here, refl, first_of_sorted (λ other. goes_on c.args.core.now other.no.0) xs c.requires.sorted i (record { no = record { 0 = 0 }; priority = 0; last = 0 }) c.loop-candidate-test.true c.loop-candidate.invariant (sym c.is_runnable.ensures ∙ c.if-is_runnable.true))

pub loop-candidate-preserved : goal.loop-candidate-preserved
loop-candidate-preserved c =
    none_so_far (λ other. goes_on c.args.core.now other.no.0) c.args.waiting.now c.loop-candidate.candidate-index (record { no = record { 0 = 0 }; priority = 0; last = 0 }) c.loop-candidate-test.true c.loop-candidate.invariant (sym c.is_runnable.ensures ∙ c.if-is_runnable.false)
