use Rattle.std.proofs.Common.{◌∙◌, arith}
use Rattle.slot_cache.proofs.PadLemmas.{not_listed_yet, reaching_more, reaching_none}
use Rattle.slot_cache.proofs.slots.reach.Goals as goal

pub loop-slots-init : goal.loop-slots-init
loop-slots-init c = record { reaching = reaching_none c.args.slots.now.items c.args.free.now c.args.slot c.requires.listed; capacity = omega arith }

pub insert-requires-clause-rising : goal.insert-requires-clause-rising
insert-requires-clause-rising c = c.loop-slots.invariant.reaching.listed.rising

pub insert-requires-clause-absent : goal.insert-requires-clause-absent
insert-requires-clause-absent c =
    rw (c.len-next.ensures ∙ c.loop-slots.slots.ok.0) (not_listed_yet c.args.slots.now.items c.args.free.now c.args.slot c.loop-slots.slots.items c.loop-slots.free c.loop-slots.invariant.reaching)

pub insert-requires-clause-room : goal.insert-requires-clause-room
insert-requires-clause-room c =
    let r = c.loop-slots.invariant.reaching in
    omega (arith, r.len, r.room, c.requires.few, c.requires.free_room, c.loop-slots-test.true, c.len.ensures, c.loop-slots.slots.ok.0)

pub push_reserved-requires : goal.push_reserved-requires
push_reserved-requires c = omega (arith, c.loop-slots-test.true, c.len.ensures, c.loop-slots.invariant.capacity, c.requires.room)

pub loop-slots-preserved : goal.loop-slots-preserved
loop-slots-preserved c =
    let i = c.loop-slots.invariant in
    let cells = c.loop-slots.slots in
    let next = c.len-next.ensures ∙ cells.ok.0 in
    record {
      reaching = reaching_more c.args.slots.now.items c.args.free.now c.args.slot cells.items c.push_reserved.new.self.items c.loop-slots.free c.insert.new.index i.reaching (omega (arith, c.loop-slots-test.true, c.len.ensures, cells.ok.0)) c.push_reserved.ensures.items c.insert.ensures.rising (rw next at c.insert.ensures.inserted) c.insert.ensures.room;
      capacity = omega (arith, i.capacity, c.push_reserved.ensures.capacity);
    }

pub loop-slots-smaller : goal.loop-slots-smaller
loop-slots-smaller c =
    omega (arith, c.push_reserved.ensures.len, c.loop-slots-test.true, c.len.ensures)

pub returns-clause-grown : goal.returns-clause-grown
returns-clause-grown c =
    let r = c.loop-slots.invariant.reaching in
    record { more = r.more; is = r.is; reaches = omega (arith, c.loop-slots-test.false, c.len.ensures, c.loop-slots.slots.ok.0); few = r.few }
