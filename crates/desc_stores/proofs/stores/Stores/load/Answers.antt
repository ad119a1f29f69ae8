use Rattle.std.proofs.Common.{ap, refl, arith}
use Rattle.cache_ident.specs.declared.idents.Ident.{Ident}
use Rattle.cache_ident.proofs.RollLemmas.{never_above}
use Rattle.slot_cache.specs.Rows.{row_name}
use Rattle.kernel_cache.specs.Kernels as kernel_rec
use Rattle.space_cache.specs.Spaces as space_rec
use Rattle.thread_cache.specs.Threads as thread_rec
use Rattle.row_store.specs.Kept.{KeptRows}
use Rattle.desc_stores.specs.Contents.{Contents}
use Rattle.kind_store.proofs.ContentLemmas.{content_named}
use Rattle.desc_stores.proofs.SoundLemmas.{kernels-sound_loading, spaces-sound_loading, threads-sound_loading, rows-sound_loading}
use Rattle.desc_stores.proofs.KindLemmas.{kernels-loading, kernels_keeps, spaces-loading, spaces_keeps, threads-loading, threads_keeps, rows-loading, rows_keeps, rows_same}
use Rattle.desc_stores.proofs.stores.Stores.load.Goals as goal

pub load-requires-clause-shelved : goal.load-requires-clause-shelved
load-requires-clause-shelved c = rw c.in-Kernel.is (rw (← c.self.view_is, c.in-Kernel.is) at c.requires.shelved)

pub invariant_of-self : goal.invariant_of-self
invariant_of-self c =
    let i = c.self.inside in
    let v : Contents = record { kernels = i.kernels; spaces = i.spaces; threads = i.threads; rows = i.rows; kernel_count = i.kernel_count; space_count = i.space_count; thread_count = i.thread_count; issued = i.roll.issued; spare = i.roll.spare } in
    let of_kind = ap (λ (j : Ident). j.kind) c.load.ensures.ident in
    let serial = ap (λ (j : Ident). j.serial) c.load.ensures.ident in
    kernels-sound_loading v c.self.invariant c.load.new.self c.load.new.roll.spare c.load.new.roll.issued c.load.result c.load.ensures.moved.value c.load.ensures.issued of_kind serial c.load.ensures.lowest.below c.load.ensures.moved.cells c.load.ensures.enrolled c.load.ensures.contents

pub returns-in-Kernel-clause-contents : goal.returns-in-Kernel-clause-contents
returns-in-Kernel-clause-contents c =
    let i = c.self.inside in
    let v : Contents = record { kernels = i.kernels; spaces = i.spaces; threads = i.threads; rows = i.rows; kernel_count = i.kernel_count; space_count = i.space_count; thread_count = i.thread_count; issued = i.roll.issued; spare = i.roll.spare } in
    rw (← c.self.view_is) (kernels_keeps v c.load.new.self v.kernel_count c.load.new.roll.issued c.load.new.roll.spare c.load.ensures.contents)

pub returns-in-Kernel-clause-residents : goal.returns-in-Kernel-clause-residents
returns-in-Kernel-clause-residents c =
    let i = c.self.inside in
    let v : Contents = record { kernels = i.kernels; spaces = i.spaces; threads = i.threads; rows = i.rows; kernel_count = i.kernel_count; space_count = i.space_count; thread_count = i.thread_count; issued = i.roll.issued; spare = i.roll.spare } in
    let of_kind = ap (λ (j : Ident). j.kind) c.load.ensures.ident in
    let serial = ap (λ (j : Ident). j.serial) c.load.ensures.ident in
    let named = content_named kernel_rec.name_of v.kernels.rows c.args.name c.load.ensures.moved.value c.load.ensures.moved.was in
    let never = never_above 0 v.issued c.load.result c.self.invariant.numbered (omega (arith, serial)) in
    rw (← c.self.view_is) (kernels-loading v c.load.new.self v.kernel_count c.load.new.roll.spare c.load.result of_kind c.load.new.roll.issued c.load.ensures.issued c.args.name c.load.ensures.moved.value named c.load.ensures.lowest.below c.load.ensures.lowest.free never c.load.ensures.moved.cells)

pub returns-in-Kernel-clause-owned : goal.returns-in-Kernel-clause-owned
returns-in-Kernel-clause-owned c =
    let i = c.self.inside in
    let v : Contents = record { kernels = i.kernels; spaces = i.spaces; threads = i.threads; rows = i.rows; kernel_count = i.kernel_count; space_count = i.space_count; thread_count = i.thread_count; issued = i.roll.issued; spare = i.roll.spare } in
    rw (← c.self.view_is) (λ owner_of owned. record {
      kernels = c.load.ensures.owned owner_of owned.kernels;
      spaces = owned.spaces;
      threads = owned.threads;
      rows = owned.rows;
    })

pub returns-in-Kernel-clause-after : goal.returns-in-Kernel-clause-after
returns-in-Kernel-clause-after c =
    let moved = rw c.in-Kernel.is at c.load.ensures.moved in
    rw (← c.self.view_is, c.in-Kernel.is) (moved, refl)

pub load-requires-in-Space-clause-shelved : goal.load-requires-in-Space-clause-shelved
load-requires-in-Space-clause-shelved c = rw c.in-Space.is (rw (← c.self.view_is, c.in-Space.is) at c.requires.shelved)

pub invariant_of-self-in-Space : goal.invariant_of-self-in-Space
invariant_of-self-in-Space c =
    let i = c.self.inside in
    let v : Contents = record { kernels = i.kernels; spaces = i.spaces; threads = i.threads; rows = i.rows; kernel_count = i.kernel_count; space_count = i.space_count; thread_count = i.thread_count; issued = i.roll.issued; spare = i.roll.spare } in
    let of_kind = ap (λ (j : Ident). j.kind) c.load-in-Space.ensures.ident in
    let serial = ap (λ (j : Ident). j.serial) c.load-in-Space.ensures.ident in
    spaces-sound_loading v c.self.invariant c.load-in-Space.new.self c.load-in-Space.new.roll.spare c.load-in-Space.new.roll.issued c.load-in-Space.result c.load-in-Space.ensures.moved.value c.load-in-Space.ensures.issued of_kind serial c.load-in-Space.ensures.lowest.below c.load-in-Space.ensures.moved.cells c.load-in-Space.ensures.enrolled c.load-in-Space.ensures.contents

pub returns-in-Space-clause-contents : goal.returns-in-Space-clause-contents
returns-in-Space-clause-contents c =
    let i = c.self.inside in
    let v : Contents = record { kernels = i.kernels; spaces = i.spaces; threads = i.threads; rows = i.rows; kernel_count = i.kernel_count; space_count = i.space_count; thread_count = i.thread_count; issued = i.roll.issued; spare = i.roll.spare } in
    rw (← c.self.view_is) (spaces_keeps v c.load-in-Space.new.self v.space_count c.load-in-Space.new.roll.issued c.load-in-Space.new.roll.spare c.load-in-Space.ensures.contents)

pub returns-in-Space-clause-residents : goal.returns-in-Space-clause-residents
returns-in-Space-clause-residents c =
    let i = c.self.inside in
    let v : Contents = record { kernels = i.kernels; spaces = i.spaces; threads = i.threads; rows = i.rows; kernel_count = i.kernel_count; space_count = i.space_count; thread_count = i.thread_count; issued = i.roll.issued; spare = i.roll.spare } in
    let of_kind = ap (λ (j : Ident). j.kind) c.load-in-Space.ensures.ident in
    let serial = ap (λ (j : Ident). j.serial) c.load-in-Space.ensures.ident in
    let named = content_named space_rec.name_of v.spaces.rows c.args.name c.load-in-Space.ensures.moved.value c.load-in-Space.ensures.moved.was in
    let never = never_above 0 v.issued c.load-in-Space.result c.self.invariant.numbered (omega (arith, serial)) in
    rw (← c.self.view_is) (spaces-loading v c.load-in-Space.new.self v.space_count c.load-in-Space.new.roll.spare c.load-in-Space.result of_kind c.load-in-Space.new.roll.issued c.load-in-Space.ensures.issued c.args.name c.load-in-Space.ensures.moved.value named c.load-in-Space.ensures.lowest.below c.load-in-Space.ensures.lowest.free never c.load-in-Space.ensures.moved.cells)

pub returns-in-Space-clause-owned : goal.returns-in-Space-clause-owned
returns-in-Space-clause-owned c =
    let i = c.self.inside in
    let v : Contents = record { kernels = i.kernels; spaces = i.spaces; threads = i.threads; rows = i.rows; kernel_count = i.kernel_count; space_count = i.space_count; thread_count = i.thread_count; issued = i.roll.issued; spare = i.roll.spare } in
    rw (← c.self.view_is) (λ owner_of owned. record {
      kernels = owned.kernels;
      spaces = c.load-in-Space.ensures.owned owner_of owned.spaces;
      threads = owned.threads;
      rows = owned.rows;
    })

pub returns-in-Space-clause-after : goal.returns-in-Space-clause-after
returns-in-Space-clause-after c =
    let moved = rw c.in-Space.is at c.load-in-Space.ensures.moved in
    rw (← c.self.view_is, c.in-Space.is) (moved, refl)

pub load-requires-in-Thread-clause-shelved : goal.load-requires-in-Thread-clause-shelved
load-requires-in-Thread-clause-shelved c = rw c.in-Thread.is (rw (← c.self.view_is, c.in-Thread.is) at c.requires.shelved)

pub invariant_of-self-in-Thread : goal.invariant_of-self-in-Thread
invariant_of-self-in-Thread c =
    let i = c.self.inside in
    let v : Contents = record { kernels = i.kernels; spaces = i.spaces; threads = i.threads; rows = i.rows; kernel_count = i.kernel_count; space_count = i.space_count; thread_count = i.thread_count; issued = i.roll.issued; spare = i.roll.spare } in
    let of_kind = ap (λ (j : Ident). j.kind) c.load-in-Thread.ensures.ident in
    let serial = ap (λ (j : Ident). j.serial) c.load-in-Thread.ensures.ident in
    threads-sound_loading v c.self.invariant c.load-in-Thread.new.self c.load-in-Thread.new.roll.spare c.load-in-Thread.new.roll.issued c.load-in-Thread.result c.load-in-Thread.ensures.moved.value c.load-in-Thread.ensures.issued of_kind serial c.load-in-Thread.ensures.lowest.below c.load-in-Thread.ensures.moved.cells c.load-in-Thread.ensures.enrolled c.load-in-Thread.ensures.contents

pub returns-in-Thread-clause-contents : goal.returns-in-Thread-clause-contents
returns-in-Thread-clause-contents c =
    let i = c.self.inside in
    let v : Contents = record { kernels = i.kernels; spaces = i.spaces; threads = i.threads; rows = i.rows; kernel_count = i.kernel_count; space_count = i.space_count; thread_count = i.thread_count; issued = i.roll.issued; spare = i.roll.spare } in
    rw (← c.self.view_is) (threads_keeps v c.load-in-Thread.new.self v.thread_count c.load-in-Thread.new.roll.issued c.load-in-Thread.new.roll.spare c.load-in-Thread.ensures.contents)

pub returns-in-Thread-clause-residents : goal.returns-in-Thread-clause-residents
returns-in-Thread-clause-residents c =
    let i = c.self.inside in
    let v : Contents = record { kernels = i.kernels; spaces = i.spaces; threads = i.threads; rows = i.rows; kernel_count = i.kernel_count; space_count = i.space_count; thread_count = i.thread_count; issued = i.roll.issued; spare = i.roll.spare } in
    let of_kind = ap (λ (j : Ident). j.kind) c.load-in-Thread.ensures.ident in
    let serial = ap (λ (j : Ident). j.serial) c.load-in-Thread.ensures.ident in
    let named = content_named thread_rec.name_of v.threads.rows c.args.name c.load-in-Thread.ensures.moved.value c.load-in-Thread.ensures.moved.was in
    let never = never_above 0 v.issued c.load-in-Thread.result c.self.invariant.numbered (omega (arith, serial)) in
    rw (← c.self.view_is) (threads-loading v c.load-in-Thread.new.self v.thread_count c.load-in-Thread.new.roll.spare c.load-in-Thread.result of_kind c.load-in-Thread.new.roll.issued c.load-in-Thread.ensures.issued c.args.name c.load-in-Thread.ensures.moved.value named c.load-in-Thread.ensures.lowest.below c.load-in-Thread.ensures.lowest.free never c.load-in-Thread.ensures.moved.cells)

pub returns-in-Thread-clause-owned : goal.returns-in-Thread-clause-owned
returns-in-Thread-clause-owned c =
    let i = c.self.inside in
    let v : Contents = record { kernels = i.kernels; spaces = i.spaces; threads = i.threads; rows = i.rows; kernel_count = i.kernel_count; space_count = i.space_count; thread_count = i.thread_count; issued = i.roll.issued; spare = i.roll.spare } in
    rw (← c.self.view_is) (λ owner_of owned. record {
      kernels = owned.kernels;
      spaces = owned.spaces;
      threads = c.load-in-Thread.ensures.owned owner_of owned.threads;
      rows = owned.rows;
    })

pub returns-in-Thread-clause-after : goal.returns-in-Thread-clause-after
returns-in-Thread-clause-after c =
    let moved = rw c.in-Thread.is at c.load-in-Thread.ensures.moved in
    rw (← c.self.view_is, c.in-Thread.is) (moved, refl)

pub load-requires-in-Mapping-clause-shelved : goal.load-requires-in-Mapping-clause-shelved
load-requires-in-Mapping-clause-shelved c = rw c.in-Mapping.is (rw (← c.self.view_is, c.in-Mapping.is) at c.requires.shelved)

pub invariant_of-self-in-Mapping : goal.invariant_of-self-in-Mapping
invariant_of-self-in-Mapping c =
    let i = c.self.inside in
    let v : Contents = record { kernels = i.kernels; spaces = i.spaces; threads = i.threads; rows = i.rows; kernel_count = i.kernel_count; space_count = i.space_count; thread_count = i.thread_count; issued = i.roll.issued; spare = i.roll.spare } in
    let of_kind = ap (λ (j : Ident). j.kind) c.load-in-Mapping.ensures.ident in
    let serial = ap (λ (j : Ident). j.serial) c.load-in-Mapping.ensures.ident in
    rows-sound_loading v c.self.invariant c.load-in-Mapping.new.self.kept c.load-in-Mapping.new.self c.load-in-Mapping.new.roll.spare c.load-in-Mapping.new.roll.issued c.load-in-Mapping.result c.load-in-Mapping.ensures.moved.value c.load-in-Mapping.ensures.issued of_kind serial c.load-in-Mapping.ensures.lowest.below c.load-in-Mapping.ensures.moved.cells c.load-in-Mapping.ensures.enrolled c.load-in-Mapping.ensures.contents

pub returns-in-Mapping-clause-contents : goal.returns-in-Mapping-clause-contents
returns-in-Mapping-clause-contents c =
    let i = c.self.inside in
    let v : Contents = record { kernels = i.kernels; spaces = i.spaces; threads = i.threads; rows = i.rows; kernel_count = i.kernel_count; space_count = i.space_count; thread_count = i.thread_count; issued = i.roll.issued; spare = i.roll.spare } in
    rw (← c.self.view_is) (rows_keeps v c.load-in-Mapping.new.self.kept c.load-in-Mapping.new.self c.load-in-Mapping.new.roll.issued c.load-in-Mapping.new.roll.spare c.load-in-Mapping.ensures.contents)

pub returns-in-Mapping-clause-residents : goal.returns-in-Mapping-clause-residents
returns-in-Mapping-clause-residents c =
    let i = c.self.inside in
    let v : Contents = record { kernels = i.kernels; spaces = i.spaces; threads = i.threads; rows = i.rows; kernel_count = i.kernel_count; space_count = i.space_count; thread_count = i.thread_count; issued = i.roll.issued; spare = i.roll.spare } in
    let of_kind = ap (λ (j : Ident). j.kind) c.load-in-Mapping.ensures.ident in
    let serial = ap (λ (j : Ident). j.serial) c.load-in-Mapping.ensures.ident in
    let named = content_named row_name v.rows.kept.rows c.args.name c.load-in-Mapping.ensures.moved.value c.load-in-Mapping.ensures.moved.was in
    let never = never_above 0 v.issued c.load-in-Mapping.result c.self.invariant.numbered (omega (arith, serial)) in
    rw (← c.self.view_is) (rows-loading v c.load-in-Mapping.new.self.kept c.load-in-Mapping.new.self c.load-in-Mapping.new.roll.spare c.load-in-Mapping.result of_kind c.load-in-Mapping.new.roll.issued c.load-in-Mapping.ensures.issued c.args.name c.load-in-Mapping.ensures.moved.value named c.load-in-Mapping.ensures.lowest.below c.load-in-Mapping.ensures.lowest.free never c.load-in-Mapping.ensures.moved.cells)

pub returns-in-Mapping-clause-owned : goal.returns-in-Mapping-clause-owned
returns-in-Mapping-clause-owned c =
    let i = c.self.inside in
    let v : Contents = record { kernels = i.kernels; spaces = i.spaces; threads = i.threads; rows = i.rows; kernel_count = i.kernel_count; space_count = i.space_count; thread_count = i.thread_count; issued = i.roll.issued; spare = i.roll.spare } in
    rw (← c.self.view_is) (λ owner_of owned. record {
      kernels = owned.kernels;
      spaces = owned.spaces;
      threads = owned.threads;
      rows = c.load-in-Mapping.ensures.owned owner_of owned.rows;
    })

pub returns-in-Mapping-clause-after : goal.returns-in-Mapping-clause-after
returns-in-Mapping-clause-after c =
    let moved = rw c.in-Mapping.is at c.load-in-Mapping.ensures.moved in
    rw (← c.self.view_is, c.in-Mapping.is) (moved, ap (λ (x : KeptRows). let y : Contents = record { kernels = c.self.inside.kernels; spaces = c.self.inside.spaces; threads = c.self.inside.threads; rows = x; kernel_count = c.self.inside.kernel_count; space_count = c.self.inside.space_count; thread_count = c.self.inside.thread_count; issued = c.load-in-Mapping.new.roll.issued; spare = c.load-in-Mapping.new.roll.spare } in y) (rows_same c.load-in-Mapping.new.self c.self.inside.rows c.load-in-Mapping.ensures.names c.load-in-Mapping.ensures.room))
