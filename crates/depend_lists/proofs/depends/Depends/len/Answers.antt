use Rattle.depend_lists.proofs.CountLemmas.{few_pairs}
use Rattle.depend_lists.proofs.depends.Depends.len.Goals as goal

pub returns-clause-few : goal.returns-clause-few
returns-clause-few c =
    let proper = c.self.invariant.proper in
    rw (← c.self.view_is) (few_pairs c.self.inside.caps c.self.inside.pairs.entries proper.within proper.few_parents)
