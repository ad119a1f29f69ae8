use Rattle.std.proofs.Common.{refl, arith}
use Rattle.std.specs.Ordering.{nat_cmp}
use Rattle.cache_ident.specs.contracts.names.NameOrd.TheImpl as order
use Rattle.cache_ident.specs.contracts.names.NameOrd.TheImpl.Laws as laws
use Rattle.growing_list.specs.slot_cache.proofs.NameLemmas.{same_name}
use Rattle.growing_list.proofs.IndexLemmas.{index_grown}
use Rattle.declared_names.proofs.OrderLemmas.{sound_roomier}
use Rattle.declared_names.proofs.names.DeclaredNames.make_room.Goals as goal

-- one list has grown
pub invariant_of-self : goal.invariant_of-self
invariant_of-self c =
    let i = c.self.inside in
    let v = c.self.invariant in
    sound_roomier i.room i.next i.by_stamp i.stamps v i.room c.grow.new.list i.stamps c.grow.ensures.entries refl v.names (omega (arith, v.by_stamp_room, c.grow.ensures.kept)) v.stamps_room v.stamps_left

-- the other one may have
pub invariant_of-self-in_err-grow-2 : goal.invariant_of-self-in_err-grow-2
invariant_of-self-in_err-grow-2 c =
    let i = c.self.inside in
    let v = c.self.invariant in
    let e = c.grow-2.ensures in
    sound_roomier i.room i.next i.by_stamp i.stamps v i.room c.grow.new.list c.grow-2.new.list c.grow.ensures.entries e.entries (index_grown (order.ghosts).cmp laws.total-law same_name nat_cmp i.stamps c.grow-2.new.list v.names e.entries e.proper) (omega (arith, v.by_stamp_room, c.grow.ensures.kept)) (omega (arith, v.stamps_room, e.kept)) v.stamps_left

-- both have
pub invariant_of-self-2 : goal.invariant_of-self-2
invariant_of-self-2 c =
    let i = c.self.inside in
    let v = c.self.invariant in
    let e = c.grow-2.ensures in
    let len = c.len-len.ensures.len in
    sound_roomier i.room i.next i.by_stamp i.stamps v _ c.grow.new.list c.grow-2.new.list c.grow.ensures.entries e.entries (index_grown (order.ghosts).cmp laws.total-law same_name nat_cmp i.stamps c.grow-2.new.list v.names e.entries e.proper) (omega (arith, len, c.in_ok-grow.ensures.ok)) (omega (arith, len, c.in_ok-grow-2.ensures.ok)) (omega (arith, c.if-self-all.false))
