use Rattle.journal_facts.proofs.facts.Facts.has.Goals as goal

pub returns : goal.returns
returns c = λ k are. c.is_named.ensures k.residents (c.residents.ensures k are.stand.tables)
