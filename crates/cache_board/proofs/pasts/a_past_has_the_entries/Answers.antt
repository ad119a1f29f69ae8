use Rattle.cache_board.proofs.PastLaws.{begins_further, begins_itself, entries_begin, past_entries}
use Rattle.cache_board.proofs.pasts.a_past_has_the_entries.Goals as goal

pub returns : goal.returns
returns c = record { journal = past_entries; begin = entries_begin; same = begins_itself; further = begins_further }
