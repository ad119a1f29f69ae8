use Rattle.cache_board.proofs.EventLaws.{past_continued}
use Rattle.cache_board.proofs.histories.each_event_continues_the_past.Goals as goal

pub returns : goal.returns
returns c = λ cpu found old new before event. past_continued cpu found old new before event
