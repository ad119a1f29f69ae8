use Rattle.std.proofs.Common.{Option, None, Some}
use Rattle.std.specs.Option.{IfNone, IfSome}
use Rattle.kind_store.proofs.SeatedLemmas.{all_taken, lowest_free}
use Rattle.kind_store.proofs.seats.Seats.free.Goals as goal

if_some : {X : Type 0} {P Q : X → Type 0} (o : Option X) → ((x : X) → P x → Q x) → IfSome o P → IfSome o Q
if_some None f p = tt
if_some (Some x) f p = f x p

if_none : {X : Type 0} {P Q : Type 0} (o : Option X) → (P → Q) → IfNone o P → IfNone o Q
if_none None f p = f p
if_none (Some x) f p = tt

pub returns-clause-lowest : goal.returns-clause-lowest
returns-clause-lowest g c =
    let i = c.self.inside in
    rw (← c.self.view_is) (if_some c.free.result (lowest_free g.T.Descriptor.called g.T.Descriptor.KIND i.slots i.by_serial i.records i.by_name c.self.invariant) c.free.ensures.lowest)

pub returns-clause-full : goal.returns-clause-full
returns-clause-full g c =
    let i = c.self.inside in
    rw (← c.self.view_is) (if_none c.free.result (all_taken g.T.Descriptor.called g.T.Descriptor.KIND i.slots i.by_serial i.records i.by_name c.self.invariant) c.free.ensures.full)
