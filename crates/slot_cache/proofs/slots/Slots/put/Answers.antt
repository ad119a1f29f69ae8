use Rattle.std.proofs.Common.{◌≡◌, ◌<◌, ℕ, List, Option, None, Some, count_by, is_some, length, ap, ◌∙◌, arith}
use Rattle.std.proofs.lemmas.List.{length-set}
use Rattle.std.specs.Prelude.{slice_set}
use Rattle.slot_cache.specs.Slots.{slot_at}
use Rattle.slot_cache.proofs.PadLemmas.{grown_count, grown_none, pad_grown_to, pad_length, pad_set}
use Rattle.slot_cache.proofs.SlotLemmas.{count-put, free-put}
use Rattle.slot_cache.proofs.slots.Slots.put.Goals as goal

-- the slot is below the capacity
pub reach-requires-clause-room : goal.reach-requires-clause-room
reach-requires-clause-room c =
    let i = c.self.inside in
    let r = c.self.invariant.1 in
    omega (arith, rw (← c.self.view_is) at c.requires.below, pad_length i.cap i.written.items r.few, r.slots_room)

pub reach-requires-clause-free_room : goal.reach-requires-clause-free_room
reach-requires-clause-free_room c =
    let i = c.self.inside in
    let r = c.self.invariant.1 in
    omega (arith, rw (← c.self.view_is) at c.requires.below, pad_length i.cap i.written.items r.few, r.gaps_room)

pub remove-requires-clause-there : goal.remove-requires-clause-there
remove-requires-clause-there c =
    let i = c.self.inside in
    let slot = c.args.slot in
    let grown = c.reach.ensures.grown in
    c.reach.ensures.listed.complete (slot, tt) (grown.reaches, grown_none i.cap i.written.items c.reach.new.slots.items slot grown (rw (← c.self.view_is) at c.requires.free))

-- the list has lost the slot
pub invariant_of-self : goal.invariant_of-self
invariant_of-self c =
    let i = c.self.inside in
    let slots = c.reach.new.slots.items in
    let slot = c.args.slot in
    let grown = c.reach.ensures.grown in
    let within : slot < length slots = grown.reaches in
    let none : slot_at slots slot ≡ None = grown_none i.cap i.written.items slots slot grown (rw (← c.self.view_is) at c.requires.free) in
    let counted = ap (count_by is_some) grown.is ∙ grown_count i.written.items grown.more in
    let count = count-put slots slot c.args.key within none in
    let r = c.self.invariant.1 in
    let below = rw (← c.self.view_is) at c.requires.below in
    let n = length-set slots slot (Some c.args.key) in (
      record {
        gaps = free-put slots slot c.args.key c.reach.new.free.entries c.remove.new.index.entries within c.reach.ensures.listed c.remove.ensures.rising c.remove.ensures.removed;
        gaps_len = omega (arith, c.remove.ensures.len, c.reach.ensures.len, c.self.invariant.0.gaps_len, counted, count, n);
      },
      record {
        small = r.small;
        few = omega (arith, grown.few i.cap r.few (omega (arith, below, pad_length i.cap i.written.items r.few)), n);
        slots_room = omega (arith, r.slots_room, c.reach.ensures.capacity);
        gaps_room = c.remove.ensures.room ∙ c.reach.ensures.free_room ∙ r.gaps_room;
      },
    )

pub returns : goal.returns
returns c =
    let i = c.self.inside in
    let slots = c.reach.new.slots.items in
    let slot = c.args.slot in
    let grown = c.reach.ensures.grown in
    let r = c.self.invariant.1 in
    let below = rw (← c.self.view_is) at c.requires.below in
    let few = grown.few i.cap r.few (omega (arith, below, pad_length i.cap i.written.items r.few)) in
    let edit = λ (l : List (Option ℕ)). slice_set l slot (Some c.args.key) in
    pad_set i.cap slots slot (Some c.args.key) grown.reaches ∙ ap edit (pad_grown_to i.cap i.written.items slots slot grown few ∙ c.self.view_is)
