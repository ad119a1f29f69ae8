use Rattle.std.proofs.Common.{arith}
use Rattle.owner_shelf.specs.declared.shelved.Shelved.{Shelved}
use Rattle.kind_store.proofs.MoveLemmas.{declare-contents, new_absent, new_unloaded}
use Rattle.kind_store.proofs.SoundLemmas.{count-declaring, owned-added}
use Rattle.kind_store.proofs.store.KindStore.declare.Goals as goal

pub insert-requires-clause-room : goal.insert-requires-clause-room
insert-requires-clause-room g c = let place = rw (← c.self.view_is) at c.requires.room in omega (arith, place)

pub insert-requires-clause-unloaded : goal.insert-requires-clause-unloaded
insert-requires-clause-unloaded g c =
    let i = c.self.inside in
    let row : Shelved g.row.T.Denot = record { owner = c.args.owner; content = c.args.value } in
    new_unloaded g.T.Descriptor.called g.T.Descriptor.KIND i.seats.cells i.seats.shelf c.self.invariant row (rw (← c.self.view_is) at c.requires.absent)

pub insert-requires-clause-absent : goal.insert-requires-clause-absent
insert-requires-clause-absent g c =
    let i = c.self.inside in
    let row : Shelved g.row.T.Denot = record { owner = c.args.owner; content = c.args.value } in
    new_absent g.T.Descriptor.called g.T.Descriptor.KIND i.seats.cells i.seats.shelf c.self.invariant row (rw (← c.self.view_is) at c.requires.absent)

pub returns-clause-room : goal.returns-clause-room
returns-clause-room g c =
    let i = c.self.inside in
    let e = c.insert.ensures in
    let row : Shelved g.row.T.Denot = record { owner = c.args.owner; content = c.args.value } in
    let place = rw (← c.self.view_is) at c.requires.room in
    let more = count-declaring g.T.Descriptor.called g.T.Descriptor.KIND i.seats.cells i.seats.shelf c.self.invariant c.insert.new.self.shelf.rows row e.rows in
    rw (← c.self.view_is, e.cells) (omega (arith, place, more, e.room))

pub returns-clause-contents : goal.returns-clause-contents
returns-clause-contents g c =
    let i = c.self.inside in
    let row : Shelved g.row.T.Denot = record { owner = c.args.owner; content = c.args.value } in
    let absent = rw (← c.self.view_is) at c.requires.absent in
    rw (← c.self.view_is, c.insert.ensures.cells) (declare-contents g.T.Descriptor.called g.T.Descriptor.KIND i.seats.cells i.seats.shelf c.self.invariant row absent c.insert.new.self.shelf c.insert.ensures.rows)

pub returns-clause-owned : goal.returns-clause-owned
returns-clause-owned g c =
    let i = c.self.inside in
    let row : Shelved g.row.T.Denot = record { owner = c.args.owner; content = c.args.value } in
    rw (← c.self.view_is) (λ owner_of own owned. owned-added g.T.Descriptor.called owner_of i.seats.shelf.rows c.insert.new.self.shelf.rows row own c.insert.ensures.rows owned)
