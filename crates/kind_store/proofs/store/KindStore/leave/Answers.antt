use Rattle.std.proofs.Common.{None, ap, set, subst}
use Rattle.cache_ident.specs.declared.idents.Ident.{Ident}
use Rattle.cache_ident.specs.Rolls.{departed}
use Rattle.owner_shelf.specs.declared.shelved.Shelved.{Shelved}
use Rattle.kind_store.specs.Rolls.{AreEnrolled}
use Rattle.kind_store.proofs.EnrolLemmas.{enrolled-leaving}
use Rattle.kind_store.proofs.MoveLemmas.{leave-keeps, leave-moved}
use Rattle.kind_store.proofs.OrderLemmas.{in_order-leaving}
use Rattle.kind_store.proofs.SoundLemmas.{owned-added}
use Rattle.kind_store.proofs.store.KindStore.leave.Goals as goal

pub leave-requires : goal.leave-requires
leave-requires g c = rw (← c.self.view_is) at c.requires.loaded

pub returns-clause-moved : goal.returns-clause-moved
returns-clause-moved g c =
    let i = c.self.inside in
    let left = c.leave.ensures.left in
    let held = left.was in
    rw (← c.self.view_is, left.cells) (leave-moved g.T.Descriptor.called g.T.Descriptor.KIND i.seats.cells i.seats.shelf c.self.invariant c.args.ident c.args.owner left.value held.0 held.1 held.2 held.3 c.leave.new.self.shelf left.room left.rows)

pub returns-clause-contents : goal.returns-clause-contents
returns-clause-contents g c =
    let i = c.self.inside in
    let left = c.leave.ensures.left in
    let held = left.was in
    rw (← c.self.view_is, left.cells) (leave-keeps g.T.Descriptor.called g.T.Descriptor.KIND i.seats.cells i.seats.shelf c.self.invariant c.args.ident c.args.owner left.value held.0 held.1 held.2 held.3 c.leave.new.self.shelf left.room left.rows)

pub returns-clause-owned : goal.returns-clause-owned
returns-clause-owned g c =
    let i = c.self.inside in
    let left = c.leave.ensures.left in
    let row : Shelved g.row.T.Denot = record { owner = c.args.owner; content = left.value } in
    rw (← c.self.view_is) (λ owner_of own owned. owned-added g.T.Descriptor.called owner_of i.seats.shelf.rows c.leave.new.self.shelf.rows row (own left.value left.was) left.rows owned)

pub returns-clause-order : goal.returns-clause-order
returns-clause-order g c =
    let i = c.self.inside in
    let left = c.leave.ensures.left in
    let held = left.was in
    rw (← c.self.view_is, c.depart.ensures.after, left.cells) (in_order-leaving i.seats.cells c.args.ident held.0 held.1 held.2 c.args.roll.now.issued c.args.at)

pub returns-clause-enrolled : goal.returns-clause-enrolled
returns-clause-enrolled g c =
    let i = c.self.inside in
    let left = c.leave.ensures.left in
    let held = left.was in
    let enrolled = rw (← c.self.view_is) at c.requires.enrolled in
    let after = enrolled-leaving g.T.Descriptor.KIND c.args.roll.now.issued i.seats.cells enrolled c.args.ident.slot held.0 held.1 c.args.at (ap (λ (j : Ident). j.slot) held.2) in
    rw (c.depart.ensures.after, left.cells) (subst (λ (j : Ident). AreEnrolled g.T.Descriptor.KIND (departed c.args.roll.now.issued j c.args.at) (set i.seats.cells c.args.ident.slot None)) held.2 after)
