use Rattle.store_residents.proofs.ResidentLemmas.{one_each, serials_rise}
use Rattle.store_residents.proofs.laws.each_resident_is_one.Goals as goal

pub returns-clause-one : goal.returns-clause-one
returns-clause-one c = one_each

pub returns-clause-rising : goal.returns-clause-rising
returns-clause-rising c = λ contents one. serials_rise contents one.sound
