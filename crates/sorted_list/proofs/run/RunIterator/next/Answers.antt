use Rattle.std.proofs.Common.{sym, ◌∙◌, ap}
use Rattle.std.specs.Prelude.{map}
use Rattle.sorted_list.proofs.SortedLemmas.{range_step}
use Rattle.sorted_list.proofs.run.RunIterator.next.Goals as goal

pub returns-in_ok-value-clause-steps : goal.returns-in_ok-value-clause-steps
returns-in_ok-value-clause-steps g c =
    let run = c.self.inside in
    let read = sym c.get.ensures ∙ c.in_ok-value.was in
    rw (← c.self.view_is) (ap (map (λ (entry : g.row.K.Denot × g.row.V.Denot). entry.1)) (range_step run.list.now.items run.next run.end (c.in_ok-value.field-0-0, c.in_ok-value.value) c.if-self.true read))
