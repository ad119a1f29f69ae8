use Rattle.std.proofs.Common.{ℕ, sym, ◌∙◌, arith}
use Rattle.std.proofs.lemmas.Option.{get_or_from_slice_get, slice_get_within}
use Rattle.slot_cache.proofs.PadLemmas.{full_padded, lowest_padded, lowest_unwritten, none_first}
use Rattle.slot_cache.proofs.SlotLemmas.{is_full, is_lowest}
use Rattle.slot_cache.proofs.slots.Slots.free.Goals as goal

-- the first that is listed is the lowest
pub returns-in-Some-clause-lowest : goal.returns-in-Some-clause-lowest
returns-in-Some-clause-lowest c =
    let i = c.self.inside in
    let first : ℕ × Unit {0} = (c.in-Some.slot, tt) in
    let read = sym c.get.ensures ∙ c.in-Some.is in
    rw (← c.self.view_is) (lowest_padded i.cap i.written.items c.in-Some.slot c.self.invariant.1.few (is_lowest i.written.items i.free.entries c.self.invariant.0.gaps first (slice_get_within i.free.entries 0 first read) (sym (get_or_from_slice_get i.free.entries 0 first first read))))

-- where none is listed, it is the first that was never used
pub returns-in-None-clause-lowest : goal.returns-in-None-clause-lowest
returns-in-None-clause-lowest c =
    let i = c.self.inside in
    let empty = none_first i.free.entries (sym c.get.ensures ∙ c.in-None.is) in
    let written = c.len-written.ensures ∙ i.written.ok.0 in
    rw (← c.self.view_is, written) (lowest_unwritten i.cap i.written.items (is_full i.written.items i.free.entries c.self.invariant.0.gaps empty) (omega (arith, c.if-written-self.true, written)))

-- and where all were, none is free
pub returns-in-None-2-clause-full : goal.returns-in-None-2-clause-full
returns-in-None-2-clause-full c =
    let i = c.self.inside in
    let empty = none_first i.free.entries (sym c.get.ensures ∙ c.in-None-2.is) in
    rw (← c.self.view_is) (full_padded i.cap i.written.items c.self.invariant.1.few (omega (arith, c.if-written-self.false, c.len-written.ensures, i.written.ok.0)) (is_full i.written.items i.free.entries c.self.invariant.0.gaps empty))
