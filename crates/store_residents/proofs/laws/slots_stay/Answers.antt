use Rattle.store_residents.proofs.StayLemmas.{slots-changing, slots-declaring, slots-kept, slots-leaving, slots-loading, slots-locking, slots-nothing, slots-reserving, slots-retracting, slots-roomier}
use Rattle.store_residents.proofs.laws.slots_stay.Goals as goal

pub returns-clause-first : goal.returns-clause-first
returns-clause-first c = slots-nothing

pub returns-clause-kept : goal.returns-clause-kept
returns-clause-kept c = slots-kept

pub returns-clause-loading : goal.returns-clause-loading
returns-clause-loading c = slots-loading

pub returns-clause-leaving : goal.returns-clause-leaving
returns-clause-leaving c = slots-leaving

pub returns-clause-locking : goal.returns-clause-locking
returns-clause-locking c = slots-locking

pub returns-clause-changing : goal.returns-clause-changing
returns-clause-changing c = slots-changing

pub returns-clause-declaring : goal.returns-clause-declaring
returns-clause-declaring c = slots-declaring

pub returns-clause-retracting : goal.returns-clause-retracting
returns-clause-retracting c = slots-retracting

pub returns-clause-roomier : goal.returns-clause-roomier
returns-clause-roomier c = slots-roomier

pub returns-clause-reserving : goal.returns-clause-reserving
returns-clause-reserving c = slots-reserving
