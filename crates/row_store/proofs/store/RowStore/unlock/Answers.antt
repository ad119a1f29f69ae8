use Rattle.std.proofs.Common.{ap, refl}
use Rattle.phys_groups.specs.declared.rows.Row.{Row}
use Rattle.kind_store.specs.Kept.{Kept}
use Rattle.row_store.specs.Frames.{IsIndexed}
use Rattle.row_store.proofs.ContentLemmas.{alike-kept}
use Rattle.row_store.proofs.FrameLemmas.{indexed-changed}
use Rattle.row_store.proofs.SoundLemmas.{sound-alike}
use Rattle.row_store.proofs.store.RowStore.unlock.Goals as goal

pub unlock-requires : goal.unlock-requires
unlock-requires c = rw (← c.self.view_is) at c.requires

pub invariant_of-self : goal.invariant_of-self
invariant_of-self c =
    let i = c.self.inside in
    let held = rw (← c.self.view_is) at c.requires in
    let new = c.unlock.new.self in
    let indexed : IsIndexed new.cells i.by_frame = rw (c.unlock.ensures.cells, held.1) (indexed-changed i.rows.cells i.by_frame c.self.invariant.frames_listed c.args.ident.slot held.0 _ held.1 refl refl) in
    sound-alike i.room i.rows i.order i.signals i.by_frame c.self.invariant new i.by_frame (alike-kept i.rows new c.unlock.ensures.contents) (ap (λ (k : Kept Row). k.room) c.unlock.ensures.cells) indexed

pub returns-clause-enrolled : goal.returns-clause-enrolled
returns-clause-enrolled c = rw (← c.self.view_is) c.unlock.ensures.enrolled
