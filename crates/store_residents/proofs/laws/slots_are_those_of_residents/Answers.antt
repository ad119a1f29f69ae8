use Rattle.store_residents.proofs.ResidentLemmas.{no_later}
use Rattle.store_residents.proofs.SlotLaws.{are_few, few, full_iff, lowest_free, taken_iff}
use Rattle.store_residents.proofs.laws.slots_are_those_of_residents.Goals as goal

pub returns-clause-taken : goal.returns-clause-taken
returns-clause-taken c = λ contents kind slot one. taken_iff contents one.sound kind slot

pub returns-clause-lowest : goal.returns-clause-lowest
returns-clause-lowest c = λ contents kind slot one is. lowest_free contents one.sound kind slot is

pub returns-clause-few : goal.returns-clause-few
returns-clause-few c = λ contents kind one. few contents one.sound kind

pub returns-clause-full : goal.returns-clause-full
returns-clause-full c = λ contents kind one. full_iff contents one.sound kind

pub returns-clause-within : goal.returns-clause-within
returns-clause-within c = λ contents caps one slots. are_few contents one.sound caps slots

pub returns-clause-next : goal.returns-clause-next
returns-clause-next c = λ contents ident one next. no_later contents one.sound ident next
