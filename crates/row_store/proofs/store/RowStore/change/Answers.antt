use Rattle.std.proofs.Common.{◌≡◌, Some, ap, refl, subst, sym}
use Rattle.cache_ident.specs.declared.names.Name.{Name}
use Rattle.phys_groups.specs.declared.rows.Row.{Row}
use Rattle.slot_cache.specs.Rows.{row_name}
use Rattle.kind_store.specs.Kept.{content_of, Kept}
use Rattle.row_store.specs.Frames.{IsIndexed}
use Rattle.row_store.proofs.ContentLemmas.{alike-changed, content_loaded}
use Rattle.row_store.proofs.FrameLemmas.{indexed-changed, same_among}
use Rattle.row_store.proofs.SoundLemmas.{sound-alike}
use Rattle.row_store.proofs.store.RowStore.change.Goals as goal

pub change-requires-clause-loaded : goal.change-requires-clause-loaded
change-requires-clause-loaded c = rw (← c.self.view_is) at c.requires.loaded

pub invariant_of-self : goal.invariant_of-self
invariant_of-self c =
    let i = c.self.inside in
    let held = rw (← c.self.view_is) at c.requires.loaded in
    let named = rw (← c.self.view_is) at c.requires.name in
    let framed = rw (← c.self.view_is) at c.requires.frame in
    let flagged = rw (← c.self.view_is) at c.requires.flags in
    let received = rw (← c.self.view_is) at c.requires.receiver in
    let new = c.change.new.self in
    let e = c.change.ensures in
    let there = subst (λ (n : Name). content_of row_name i.rows n ≡ Some held.0.value) (named held.0 held.1) (content_loaded i.rows c.each_is_one.ensures c.args.ident held.0 held.1) in
    let alike = alike-changed i.rows new (row_name c.args.value) c.args.value e.contents held.0.value there (sym (framed held.0 held.1)) (sym (received held.0 held.1)) in
    let indexed : IsIndexed new.cells i.by_frame = rw (e.after, held.1) (indexed-changed i.rows.cells i.by_frame c.self.invariant.frames_listed c.args.ident.slot held.0 _ held.1 refl (same_among c.args.value held.0.value (sym (framed held.0 held.1)) (sym (flagged held.0 held.1)))) in
    sound-alike i.room i.rows i.order i.signals i.by_frame c.self.invariant new i.by_frame alike (ap (λ (k : Kept Row). k.room) e.after) indexed

pub returns-clause-enrolled : goal.returns-clause-enrolled
returns-clause-enrolled c = rw (← c.self.view_is) c.change.ensures.enrolled
