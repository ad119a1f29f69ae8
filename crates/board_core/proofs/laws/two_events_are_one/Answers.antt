use Rattle.board_core.proofs.GoingLaws.{event_more, grew_nothing}
use Rattle.board_core.proofs.laws.two_events_are_one.Goals as goal

pub returns-clause-nothing : goal.returns-clause-nothing
returns-clause-nothing c = λ cpu b sound. record { grew = grew_nothing cpu b; was = sound; sound = sound }

pub returns-clause-twice : goal.returns-clause-twice
returns-clause-twice c = event_more
