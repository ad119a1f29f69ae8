use Rattle.desc_stores.proofs.stores.Stores.other_rows.Goals as goal

pub returns-clause-rows : goal.returns-clause-rows
returns-clause-rows c = rw (← c.self.view_is) c.other_rows.ensures.rows
