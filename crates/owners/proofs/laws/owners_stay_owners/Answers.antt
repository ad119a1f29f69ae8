use Rattle.owners.proofs.Learning.{still_owners}
use Rattle.owners.proofs.laws.owners_stay_owners.Goals as goal

pub returns : goal.returns
returns c = still_owners
