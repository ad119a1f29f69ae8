use Rattle.cache_board.proofs.PastLaws.{added_twice, event_added, found_begins, nothing_added}
use Rattle.cache_board.proofs.pasts.calls_of_a_hold_continue_the_past.Goals as goal

pub returns : goal.returns
returns c = record { nothing = nothing_added; event = event_added; twice = added_twice; begins = found_begins }
