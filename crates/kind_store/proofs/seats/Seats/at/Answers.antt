use Rattle.std.proofs.Common.{sym, ap, ◌∙◌}
use Rattle.slot_cache.specs.Seats.{held_in}
use Rattle.kind_store.proofs.HeldLemmas.{cells-at}
use Rattle.kind_store.proofs.seats.Seats.at.Goals as goal

pub returns : goal.returns
returns g c =
    let i = c.self.inside in
    rw (← c.self.view_is) (c.held.ensures ∙ ap (held_in i.records.slots) c.get.ensures ∙ sym (cells-at i.records.slots i.slots c.args.slot))
