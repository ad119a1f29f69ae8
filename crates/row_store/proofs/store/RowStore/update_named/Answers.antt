use Rattle.std.proofs.Common.{ap}
use Rattle.phys_groups.specs.declared.rows.Row.{Row}
use Rattle.kind_store.specs.Kept.{Kept}
use Rattle.row_store.specs.Frames.{IsIndexed}
use Rattle.row_store.proofs.ContentLemmas.{alike-changed}
use Rattle.row_store.proofs.FrameLemmas.{same_among}
use Rattle.row_store.proofs.NamedLemmas.{indexed-named}
use Rattle.row_store.proofs.SoundLemmas.{sound-alike}
use Rattle.row_store.proofs.store.RowStore.update_named.Goals as goal

-- the change leaves name, frame, flags and receiver
pub invariant_of-self : goal.invariant_of-self
invariant_of-self g c =
    let i = c.self.inside in
    let made = c.update_named.ensures.updated in
    let framed = rw (← c.self.view_is) at c.requires.frame in
    let flagged = rw (← c.self.view_is) at c.requires.flags in
    let received = rw (← c.self.view_is) at c.requires.receiver in
    let new = c.update_named.new.self in
    let frame = framed made.value c.update_named.result made.left made.was made.called_with in
    let alike = alike-changed i.rows new c.args.name made.left made.contents made.value made.was frame (received made.value c.update_named.result made.left made.was made.called_with) in
    let indexed : IsIndexed new.cells i.by_frame = rw made.is (indexed-named i.rows c.each_is_one.ensures.slots.one_name c.args.name made.value made.left made.was (same_among made.left made.value frame (flagged made.value c.update_named.result made.left made.was made.called_with)) i.by_frame c.self.invariant.frames_listed) in
    sound-alike i.room i.rows i.order i.signals i.by_frame c.self.invariant new i.by_frame alike (ap (λ (k : Kept Row). k.room) made.is) indexed

pub returns-clause-enrolled : goal.returns-clause-enrolled
returns-clause-enrolled g c = rw (← c.self.view_is) c.update_named.ensures.enrolled

pub update_named-requires-clause-named : goal.update_named-requires-clause-named
update_named-requires-clause-named g c = rw (← c.self.view_is) at c.requires.named

pub returns-clause-owned : goal.returns-clause-owned
returns-clause-owned g c = rw (← c.self.view_is) c.update_named.ensures.owned
