use Rattle.std.proofs.Common.{sym, arith}
use Rattle.slot_cache.specs.Rows.{row_name}
use Rattle.kind_store.specs.Kept.{content_of}
use Rattle.row_store.proofs.ContentLemmas.{no_some, shelved_some}
use Rattle.row_store.proofs.SoundLemmas.{declared_name, listed_signal, names_retracting, sound-retracting}
use Rattle.row_store.proofs.store.RowStore.retract.Goals as goal

pub unreachable-requires : goal.unreachable-requires
unreachable-requires c =
    let i = c.self.inside in
    no_some (content_of row_name i.rows c.args.name) (sym c.in_default.ensures.content) (shelved_some i.rows c.args.name (rw (← c.self.view_is) at c.requires))

pub remove-stamp-requires : goal.remove-stamp-requires
remove-stamp-requires c =
    let i = c.self.inside in
    declared_name i.room i.rows i.order i.signals i.by_frame c.self.invariant c.args.name c.in-Some.row.now (sym c.in-Some.ensures.content)

pub unlist-requires-clause-there : goal.unlist-requires-clause-there
unlist-requires-clause-there c =
    let i = c.self.inside in
    listed_signal i.room i.rows i.order i.signals i.by_frame c.self.invariant c.args.name c.in-Some.row.now (sym c.in-Some.ensures.content) c.remove-stamp.result c.remove-stamp.ensures.stamp

pub invariant_of-self : goal.invariant_of-self
invariant_of-self c =
    let i = c.self.inside in
    let v = c.self.invariant in
    let o = c.remove-stamp.ensures in
    let u = c.unlist.ensures in
    let r = c.retract.ensures in
    sound-retracting i.room i.rows i.order i.signals i.by_frame v c.args.name c.in-Some.row.now (sym c.in-Some.ensures.content) c.retract.new.self r.contents c.remove-stamp.result o.stamp c.remove-stamp.new.self o.entries
    i.room c.unlist.new.signals o.proper u.unlisted u.proper r.cells (omega (arith, v.rows_room, r.room)) (omega (arith, v.order_room, o.room)) (omega (arith, v.signals_room, u.few, u.room))

pub returns-clause-names : goal.returns-clause-names
returns-clause-names c =
    let i = c.self.inside in
    let r = c.retract.ensures in
    let o = c.remove-stamp.ensures in
    rw (← c.self.view_is) (names_retracting i.room i.rows i.order i.signals i.by_frame c.self.invariant c.args.name c.in-Some.row.now (sym c.in-Some.ensures.content) c.retract.new.self r.contents c.remove-stamp.result o.stamp c.remove-stamp.new.self o.entries)
