use Rattle.desc_stores.proofs.stores.Stores.message_rows.Goals as goal

pub returns-clause-rows : goal.returns-clause-rows
returns-clause-rows c = rw (← c.self.view_is) c.message_rows.ensures.rows
