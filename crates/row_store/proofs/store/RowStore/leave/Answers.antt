use Rattle.std.proofs.Common.{◌∙◌, ap, subst, sym}
use Rattle.sorted_list.specs.Sorted.{IsTakenOut}
use Rattle.row_store.specs.declared.frames.RowsOf.{RowsOf}
use Rattle.row_store.specs.Frames.{rows_of}
use Rattle.row_store.proofs.ContentLemmas.{alike-kept}
use Rattle.row_store.proofs.FrameLemmas.{indexed-take}
use Rattle.row_store.proofs.SoundLemmas.{sound-alike}
use Rattle.row_store.proofs.store.RowStore.leave.Goals as goal

pub unreachable-requires : goal.unreachable-requires
unreachable-requires c = c.in_default.ensures.absent (rw (← c.self.view_is) at c.requires.loaded)

pub remove-requires : goal.remove-requires
remove-requires c =
    let held = c.in-Some.ensures.content in
    let among = ap rows_of held.3 ∙ sym c.rows_with.ensures in
    (c.self.invariant.frames_listed.listed (c.rows_with.result, c.args.ident)).1 (held.0, held.1, held.2, ap (λ (r : RowsOf). r.frame) among, ap (λ (r : RowsOf). r.message) among)

pub invariant_of-self : goal.invariant_of-self
invariant_of-self c =
    let i = c.self.inside in
    let held = c.in-Some.ensures.content in
    let l = c.leave.ensures in
    let new = c.leave.new.self in
    let among = ap rows_of held.3 ∙ sym c.rows_with.ensures in
    let taken = subst (λ (r : RowsOf). IsTakenOut i.by_frame.entries c.remove.new.self.entries (r, c.args.ident)) (sym among) c.remove.ensures.entries in
    let indexed = indexed-take i.rows.cells i.by_frame c.self.invariant.frames_listed c.remove.new.self c.args.ident held.0 held.1 held.2 taken c.remove.ensures.room c.remove.ensures.proper.rising in
    sound-alike i.room i.rows i.order i.signals i.by_frame c.self.invariant new c.remove.new.self (alike-kept i.rows new l.contents) l.moved.room (rw l.moved.cells indexed)

pub returns-clause-owned : goal.returns-clause-owned
returns-clause-owned c = rw (← c.self.view_is) c.leave.ensures.owned
