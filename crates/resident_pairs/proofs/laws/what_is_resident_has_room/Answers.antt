use Rattle.resident_pairs.proofs.Room.{has_room, no_child}
use Rattle.resident_pairs.proofs.laws.what_is_resident_has_room.Goals as goal

pub returns-clause-new : goal.returns-clause-new
returns-clause-new c = λ s rs pairs ident are none child. no_child s rs pairs ident are none child

pub returns-clause-room : goal.returns-clause-room
returns-clause-room c = λ s rs pairs caps child name are few. has_room caps s rs pairs are child name few
