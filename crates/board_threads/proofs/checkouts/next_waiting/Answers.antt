use Rattle.std.proofs.Common.{subst, sym, ◌∙◌}
use Rattle.board_threads.specs.Waiting.{IsFirstFree}
use Rattle.board_threads.proofs.CandidateLemmas.{first_is_chosen, nobody_free}
use Rattle.board_threads.proofs.checkouts.next_waiting.Goals as goal

pub returns-in_err-first-clause-nobody : goal.returns-in_err-first-clause-nobody
returns-in_err-first-clause-nobody c = rw c.from_residual.ensures (nobody_free c.args.core.now (subst (IsFirstFree c.args.core.now) c.in_err-first.was c.first_free-found.ensures))

pub returns-then-is_runnable-clause-chosen : goal.returns-then-is_runnable-clause-chosen
returns-then-is_runnable-clause-chosen c =
    first_is_chosen c.args.core.now c.in_ok-first.first (subst (IsFirstFree c.args.core.now) c.in_ok-first.was c.first_free-found.ensures) (sym c.is_runnable.ensures ∙ c.if-is_runnable.true)
