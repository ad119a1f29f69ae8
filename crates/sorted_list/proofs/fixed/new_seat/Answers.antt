use Rattle.std.proofs.Common.{◌∙◌, inr, arith}
use Rattle.sorted_list.proofs.FixedLemmas.{emptied}
use Rattle.sorted_list.proofs.fixed.new_seat.Goals as goal

pub returns-in-None-clause-seated : goal.returns-in-None-clause-seated
returns-in-None-clause-seated g c =
    let none = c.in-None.ensures.cases in
    let old_none = emptied c.args.spare.now.items (omega (arith, none.0, c.args.spare.now.ok.0)) in
    let new_none = emptied c.pop.new.self.items (omega (arith, none.1, c.pop.new.self.ok.0)) in
    inr (old_none, new_none, c.len-seat.ensures ∙ c.args.nodes.now.ok.0, c.push_reserved.ensures.items)
