use Rattle.journal_facts.proofs.Standing.{none_left}
use Rattle.journal_facts.proofs.facts.Facts.go_on.Goals as goal

pub returns : goal.returns
returns c = λ k stand before left due. record {
  stand = record { state = stand.state; events = stand.events; made = stand.made; tables = stand.tables; loads = stand.loads; seal = stand.seal; early = stand.early };
  group = none_left c.clear.new.self k before left (c.clear.ensures k.state k.residents stand.tables.whole.one stand.tables.whole.apart stand.tables.whole.good);
  due = due;
}
