use Rattle.std.proofs.Common.{None, length, sym, ap, ◌∙◌, arith}
use Rattle.std.proofs.lemmas.Bool.{ltb-false}
use Rattle.std.proofs.lemmas.List.{get_or_past}
use Rattle.slot_cache.proofs.PadLemmas.{pad_at}
use Rattle.slot_cache.proofs.slots.Slots.get.Goals as goal

pub returns-in-Some : goal.returns-in-Some
returns-in-Some c =
    let i = c.self.inside in
    let look = rw c.deref.ensures.value at (c.in-Some.ensures.lookup.3.1 None) in
    rw (← c.self.view_is) (look ∙ sym (pad_at i.cap i.written.items c.args.slot))

pub returns-in-None : goal.returns-in-None
returns-in-None c =
    let i = c.self.inside in
    let past = ltb-false c.args.slot (length c.deref.result.now) (sym c.in-None.ensures.lookup.0) in
    rw (← c.self.view_is) (sym (pad_at i.cap i.written.items c.args.slot ∙ get_or_past i.written.items c.args.slot None (omega (arith, past, ap length c.deref.ensures.value))))
