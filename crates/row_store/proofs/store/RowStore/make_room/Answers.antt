use Rattle.std.proofs.Common.{suc, ap, length, refl, arith}
use Rattle.row_store.proofs.ContentLemmas.{alike-kept, alike-same}
use Rattle.row_store.proofs.SoundLemmas.{sound-roomier}
use Rattle.row_store.proofs.store.RowStore.make_room.Goals as goal

-- the order has more room, or not
pub invariant_of-self : goal.invariant_of-self
invariant_of-self c =
    let i = c.self.inside in
    let v = c.self.invariant in
    let o = c.make_names_room.ensures in
    sound-roomier i.room i.rows i.order i.signals i.by_frame v i.room i.rows c.make_names_room.new.order i.signals (alike-kept i.rows i.rows (λ name. refl)) refl o.entries refl v.signals_proper v.rows_room (omega (arith, v.order_room, o.kept)) v.signals_room

-- and so have the signals
pub invariant_of-self-in_err-make_room : goal.invariant_of-self-in_err-make_room
invariant_of-self-in_err-make_room c =
    let i = c.self.inside in
    let v = c.self.invariant in
    let o = c.make_names_room.ensures in
    let s = c.make_room.ensures in
    sound-roomier i.room i.rows i.order i.signals i.by_frame v i.room i.rows c.make_names_room.new.order c.make_room.new.signals (alike-kept i.rows i.rows (λ name. refl)) refl o.entries s.entries s.proper v.rows_room (omega (arith, v.order_room, o.kept)) (omega (arith, v.signals_room, s.kept))

-- and the rows have none
pub invariant_of-self-in_err-make_rows_room : goal.invariant_of-self-in_err-make_rows_room
invariant_of-self-in_err-make_rows_room c =
    let i = c.self.inside in
    let v = c.self.invariant in
    let o = c.make_names_room.ensures in
    let s = c.make_room.ensures in
    rw c.in_err-make_rows_room.ensures.err (sound-roomier i.room i.rows i.order i.signals i.by_frame v i.room i.rows c.make_names_room.new.order c.make_room.new.signals (alike-kept i.rows i.rows (λ name. refl)) refl o.entries s.entries s.proper v.rows_room (omega (arith, v.order_room, o.kept)) (omega (arith, v.signals_room, s.kept)))

-- all have
pub invariant_of-self-2 : goal.invariant_of-self-2
invariant_of-self-2 c =
    let i = c.self.inside in
    let o = c.make_names_room.ensures in
    let s = c.make_room.ensures in
    let r = c.make_rows_room.ensures in
    let m = c.room_in-self-inside.ensures in
    sound-roomier i.room i.rows i.order i.signals i.by_frame c.self.invariant c.room_in-self-inside.result c.make_rows_room.new.rows c.make_names_room.new.order c.make_room.new.signals (alike-same i.rows c.make_rows_room.new.rows r.cells r.rows) r.cells o.entries s.entries s.proper m.rows m.order (omega (arith, m.signals, ap length s.entries))

pub returns-clause-ok : goal.returns-clause-ok
returns-clause-ok c =
    let i = c.self.inside in
    rw (← c.self.view_is) (c.room_in-self-inside.ensures.most (suc i.room) c.in_ok-make_rows_room.ensures.ok c.in_ok-make_names_room.ensures.ok (omega (arith, c.in_ok-make_room.ensures.ok)))
