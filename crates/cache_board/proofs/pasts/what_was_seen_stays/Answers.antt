use Rattle.cache_board.proofs.PastLaws.{limit_seen, limit_stays, seal_in_past, seal_seen, seal_stays}
use Rattle.cache_board.proofs.pasts.what_was_seen_stays.Goals as goal

pub returns : goal.returns
returns c = record { limit = limit_seen; seal = seal_seen; limits = limit_stays; seals = seal_stays; seen = seal_in_past }
