use Rattle.owner_laws.proofs.Spaces.{is_of_space}
use Rattle.owner_laws.proofs.learning.a_space_that_a_load_passes_may_be_learnt.Goals as goal

pub returns : goal.returns
returns c b o caller parent space thread sound are noted passes = is_of_space b o caller parent space thread sound are noted passes
