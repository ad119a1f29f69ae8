use Rattle.std.proofs.Common.{sym}
use Rattle.slot_cache.proofs.PadLemmas.{pad_taken}
use Rattle.slot_cache.proofs.slots.Slots.written.Goals as goal

pub returns : goal.returns
returns c =
    let i = c.self.inside in
    rw (← c.self.view_is, c.deref.ensures.value) (sym (pad_taken i.cap i.written.items))
