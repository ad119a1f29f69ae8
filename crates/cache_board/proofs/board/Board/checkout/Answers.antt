use Rattle.std.proofs.Common.{IfNone, subst, ◌∙◌}
use Rattle.ready_queue.specs.declared.Candidate.{Candidate}
use Rattle.board_core.specs.Core.{Recorded}
use Rattle.board_commits.specs.board_threads.specs.Waiting.{IsWaiting}
use Rattle.cache_board.proofs.EventLaws.{checkout_event}
use Rattle.cache_board.proofs.board.Board.checkout.Goals as goal

pub returns-clause-event : goal.returns-clause-event
returns-clause-event c =
    let same = c.deref_mut.ensures.value ∙ c.self.view_is in
    checkout_event c.args.cpu c.args.self.now c.deref_mut.result.now c.checkout-ticket.new.core same c.holds.ensures.sound c.holds-2.ensures.sound c.checkout-ticket.result c.checkout-ticket.ensures.nothing c.checkout-ticket.ensures.out

pub returns-clause-nobody : goal.returns-clause-nobody
returns-clause-nobody c =
    let same = c.deref_mut.ensures.value ∙ c.self.view_is in
    subst (λ (b : Recorded). IfNone c.checkout-ticket.result ((candidate : Candidate) → IsWaiting b candidate → ⊥)) same c.checkout-ticket.ensures.nobody
