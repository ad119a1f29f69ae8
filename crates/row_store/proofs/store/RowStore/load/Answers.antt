use Rattle.std.proofs.Common.{◌∙◌, ap, subst}
use Rattle.sorted_list.specs.Sorted.{IsAdded}
use Rattle.slot_cache.specs.Cells.{just_loaded}
use Rattle.row_store.specs.declared.frames.RowsOf.{RowsOf}
use Rattle.row_store.specs.Frames.{rows_of}
use Rattle.row_store.proofs.ContentLemmas.{alike-kept, just_there, loaded_row}
use Rattle.row_store.proofs.FrameLemmas.{absent_row, index_room, indexed-put}
use Rattle.row_store.proofs.SoundLemmas.{sound-alike}
use Rattle.row_store.proofs.store.RowStore.load.Goals as goal

pub unreachable-requires : goal.unreachable-requires
unreachable-requires c =
    let i = c.self.inside in
    let l = c.load-ident.ensures in
    let lowest = l.lowest in
    c.in_default.ensures.absent (just_there i.rows.cells c.load-ident.new.self.cells c.load-ident.result l.moved.value lowest.below l.moved.cells)

pub insert-requires-clause-absent : goal.insert-requires-clause-absent
insert-requires-clause-absent c =
    let i = c.self.inside in
    absent_row i.rows.cells i.by_frame.entries c.self.invariant.frames_listed.listed c.load-ident.result c.rows_with.result c.load-ident.ensures.lowest.free

pub insert-requires-clause-room : goal.insert-requires-clause-room
insert-requires-clause-room c =
    let i = c.self.inside in
    let l = c.load-ident.ensures in
    index_room i.rows.cells i.by_frame c.self.invariant.frames_listed c.load-ident.result.slot (just_loaded c.load-ident.result l.moved.value) l.lowest.below l.lowest.free

pub invariant_of-self : goal.invariant_of-self
invariant_of-self c =
    let i = c.self.inside in
    let l = c.load-ident.ensures in
    let ident = c.load-ident.result in
    let new = c.load-ident.new.self in
    let row = loaded_row i.rows.cells new.cells ident l.moved.value l.lowest.below l.moved.cells c.in-Some.row.now c.in-Some.ensures.content in
    let among = c.rows_with.ensures ∙ ap rows_of row in
    let added = subst (λ (r : RowsOf). IsAdded i.by_frame.entries c.insert.new.self.entries (r, ident)) among c.insert.ensures.entries in
    let indexed = indexed-put i.rows.cells i.by_frame c.self.invariant.frames_listed c.insert.new.self ident l.moved.value l.lowest.below l.lowest.free added c.insert.ensures.room c.insert.ensures.proper.rising in
    sound-alike i.room i.rows i.order i.signals i.by_frame c.self.invariant new c.insert.new.self (alike-kept i.rows new l.contents) l.moved.room (rw l.moved.cells indexed)

pub returns-clause-owned : goal.returns-clause-owned
returns-clause-owned c = rw (← c.self.view_is) c.load-ident.ensures.owned
