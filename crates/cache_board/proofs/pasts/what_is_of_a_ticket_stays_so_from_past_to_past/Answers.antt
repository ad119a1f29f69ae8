use Rattle.cache_board.proofs.PastLaws.{kept_on, kept_then, views_on, views_then}
use Rattle.cache_board.proofs.pasts.what_is_of_a_ticket_stays_so_from_past_to_past.Goals as goal

pub returns : goal.returns
returns c = record { views = views_then; kept = kept_then; views_on = views_on; kept_on = kept_on }
