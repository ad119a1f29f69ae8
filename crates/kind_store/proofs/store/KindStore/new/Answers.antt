use Rattle.kind_store.proofs.SoundLemmas.{sound-new}
use Rattle.kind_store.proofs.store.KindStore.new.Goals as goal

pub invariant_of-result : goal.invariant_of-result
invariant_of-result g c = rw c.in_ok-new.ensures (sound-new g.T.Descriptor.called g.T.Descriptor.KIND c.args.cap)
