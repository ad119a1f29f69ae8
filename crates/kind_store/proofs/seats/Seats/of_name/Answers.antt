use Rattle.owner_shelf.proofs.SoundLemmas.{some_is}
use Rattle.kind_store.proofs.SeatedLemmas.{kept_at, lead_is, nothing_loaded, nothing_shelved, seat_seen}
use Rattle.kind_store.proofs.seats.Seats.of_name.Goals as goal

pub returns-in_err-key-clause-unloaded : goal.returns-in_err-key-clause-unloaded
returns-in_err-key-clause-unloaded g c =
    let i = c.self.inside in
    rw c.from_residual.ensures (nothing_loaded g.T.Descriptor.called g.T.Descriptor.KIND i.slots i.by_serial i.records i.by_name c.self.invariant c.args.self.now c.self.view_is c.args.name c.in_err-key.ensures.absent)

pub returns-in_err-key-clause-absent : goal.returns-in_err-key-clause-absent
returns-in_err-key-clause-absent g c =
    let i = c.self.inside in
    rw c.from_residual.ensures (nothing_shelved g.T.Descriptor.called g.T.Descriptor.KIND i.slots i.by_serial i.records i.by_name c.self.invariant c.args.self.now c.self.view_is c.args.name c.in_err-key.ensures.absent)

pub index-requires : goal.index-requires
index-requires g c =
    let i = c.self.inside in
    let there = lead_is g.T.Descriptor.called g.T.Descriptor.KIND i.slots i.by_serial i.records i.by_name c.self.invariant c.args.name c.in_ok-key.key c.in_ok-key.ensures.found in
    let has = kept_at g.T.Descriptor.called g.T.Descriptor.KIND i.slots i.by_serial i.records i.by_name c.self.invariant c.args.name c.in_ok-key.key there in
    some_is _ has.0 has.1

pub returns-clause-found : goal.returns-clause-found
returns-clause-found g c =
    let i = c.self.inside in
    let there = lead_is g.T.Descriptor.called g.T.Descriptor.KIND i.slots i.by_serial i.records i.by_name c.self.invariant c.args.name c.in_ok-key.key c.in_ok-key.ensures.found in
    seat_seen g.T.Descriptor.called g.T.Descriptor.KIND i.slots i.by_serial i.records i.by_name c.self.invariant c.args.self.now c.self.view_is c.args.name c.in_ok-key.key c.index.result.now there c.index.ensures
