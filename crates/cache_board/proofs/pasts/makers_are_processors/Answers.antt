use Rattle.cache_board.proofs.PastLaws.{made_by_eight, made_by_numbers}
use Rattle.cache_board.proofs.pasts.makers_are_processors.Goals as goal

pub returns : goal.returns
returns c = record { eight = made_by_eight; numbers = made_by_numbers }
