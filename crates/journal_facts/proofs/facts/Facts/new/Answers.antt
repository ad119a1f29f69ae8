use Rattle.std.proofs.Common.{[], refl, sym}
use Rattle.flat_state.specs.State.{nothing_declared}
use Rattle.journal_facts.proofs.facts.Facts.new.Goals as goal

pub returns : goal.returns
returns c =
    let tables = c.new-2.ensures in
    record {
      stand = record { state = sym c.new.ensures; events = []; made = refl; tables = tables; loads = refl; seal = refl; early = λ off. refl };
      group = c.new-3.ensures nothing_declared [] tables.whole.one tables.whole.apart tables.whole.good;
      due = refl;
    }
