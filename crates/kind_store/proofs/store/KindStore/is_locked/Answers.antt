use Rattle.kind_store.proofs.store.KindStore.is_locked.Goals as goal

pub is_locked-requires : goal.is_locked-requires
is_locked-requires g c = rw (← c.self.view_is) at c.requires
