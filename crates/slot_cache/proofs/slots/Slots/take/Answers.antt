use Rattle.std.proofs.Common.{ℕ, List, Option, None, subst, ap, ◌∙◌, arith}
use Rattle.std.proofs.lemmas.List.{length-set}
use Rattle.std.specs.Prelude.{slice_set, IsSome}
use Rattle.slot_cache.specs.Slots.{slot_at}
use Rattle.slot_cache.proofs.PadLemmas.{pad_at, pad_set}
use Rattle.slot_cache.proofs.SlotLemmas.{cell_within, count-take, free-take, is_there, not_listed}
use Rattle.slot_cache.proofs.slots.Slots.take.Goals as goal

pub insert-requires-clause-absent : goal.insert-requires-clause-absent
insert-requires-clause-absent c =
    let i = c.self.inside in
    let held = is_there (slot_at i.written.items c.args.slot) (subst (λ o. IsSome o) (pad_at i.cap i.written.items c.args.slot) (rw (← c.self.view_is) at c.requires)) in
    not_listed i.written.items i.free.entries c.self.invariant.0.gaps c.args.slot held.0 held.1

pub insert-requires-clause-room : goal.insert-requires-clause-room
insert-requires-clause-room c =
    let i = c.self.inside in
    let held = is_there (slot_at i.written.items c.args.slot) (subst (λ o. IsSome o) (pad_at i.cap i.written.items c.args.slot) (rw (← c.self.view_is) at c.requires)) in
    let r = c.self.invariant.1 in
    omega (arith, count-take i.written.items c.args.slot held.0 held.1, c.self.invariant.0.gaps_len, r.few, r.gaps_room)

pub index_mut-requires : goal.index_mut-requires
index_mut-requires c =
    let i = c.self.inside in
    let held = is_there (slot_at i.written.items c.args.slot) (subst (λ o. IsSome o) (pad_at i.cap i.written.items c.args.slot) (rw (← c.self.view_is) at c.requires)) in
    omega (arith, cell_within i.written.items c.args.slot held.0 held.1, i.written.ok.0)

-- the list has gained the slot
pub invariant_of-self : goal.invariant_of-self
invariant_of-self c =
    let i = c.self.inside in
    let slots = i.written.items in
    let slot = c.args.slot in
    let held = is_there (slot_at slots slot) (subst (λ o. IsSome o) (pad_at i.cap slots slot) (rw (← c.self.view_is) at c.requires)) in
    let r = c.self.invariant.1 in
    let n = length-set slots slot None in (
      record {
        gaps = free-take slots slot held.0 i.free.entries c.insert.new.index.entries held.1 c.self.invariant.0.gaps c.insert.ensures.rising c.insert.ensures.inserted;
        gaps_len = omega (arith, c.insert.ensures.len, c.self.invariant.0.gaps_len, count-take slots slot held.0 held.1, n);
      },
      record {
        small = r.small;
        few = omega (arith, r.few, n);
        slots_room = r.slots_room;
        gaps_room = c.insert.ensures.room ∙ r.gaps_room;
      },
    )

pub returns : goal.returns
returns c =
    let i = c.self.inside in
    let held = is_there (slot_at i.written.items c.args.slot) (subst (λ o. IsSome o) (pad_at i.cap i.written.items c.args.slot) (rw (← c.self.view_is) at c.requires)) in
    let edit = λ (l : List (Option ℕ)). slice_set l c.args.slot None in
    pad_set i.cap i.written.items c.args.slot None (cell_within i.written.items c.args.slot held.0 held.1) ∙ ap edit c.self.view_is
