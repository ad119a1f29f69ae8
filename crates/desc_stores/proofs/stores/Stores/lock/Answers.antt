use Rattle.std.proofs.Common.{true, ap, refl}
use Rattle.phys_groups.specs.declared.rows.Row.{Row}
use Rattle.slot_cache.specs.Cells as cells
use Rattle.kernel_cache.specs.declared.KernelRec.{KernelRec}
use Rattle.kernel_cache.specs.Kernels as kernel_rec
use Rattle.space_cache.specs.declared.SpaceRec.{SpaceRec}
use Rattle.space_cache.specs.Spaces as space_rec
use Rattle.thread_cache.specs.declared.ThreadRec.{ThreadRec}
use Rattle.thread_cache.specs.Threads as thread_rec
use Rattle.kind_store.specs.Kept.{Kept}
use Rattle.desc_stores.specs.Contents.{Contents}
use Rattle.desc_stores.specs.Sound.{kernel_named, space_named, thread_named}
use Rattle.desc_stores.proofs.SoundLemmas.{numbered-keeps, kernels-sound_changing, spaces-sound_changing, threads-sound_changing, rows-sound_changing}
use Rattle.desc_stores.proofs.KindLemmas.{kernels-locking, spaces-locking, threads-locking, rows-locking}
use Rattle.desc_stores.proofs.stores.Stores.lock.Goals as goal

pub invariant_of-self : goal.invariant_of-self
invariant_of-self c =
    let i = c.self.inside in
    let v : Contents = record { kernels = i.kernels; spaces = i.spaces; threads = i.threads; rows = i.rows; kernel_count = i.kernel_count; space_count = i.space_count; thread_count = i.thread_count; issued = i.roll.issued; spare = i.roll.spare } in
    let live = rw (← c.self.view_is) at c.requires in
    let held = c.self.invariant.kernels.enrolled.loaded c.args.ident c.in-Kernel.is live in
    kernels-sound_changing v c.self.invariant c.lock.new.self v.spare c.args.ident (cells.with_lock true) (λ l. refl) held (ap (λ (k : Kept KernelRec). k.cells) c.lock.ensures.cells) c.lock.ensures.enrolled (numbered-keeps kernel_rec.name_of kernel_named v.kernels c.lock.new.self v.kernel_count c.self.invariant.kernel_names c.lock.ensures.contents)

pub returns-in-Kernel-clause-residents : goal.returns-in-Kernel-clause-residents
returns-in-Kernel-clause-residents c =
    let i = c.self.inside in
    let v : Contents = record { kernels = i.kernels; spaces = i.spaces; threads = i.threads; rows = i.rows; kernel_count = i.kernel_count; space_count = i.space_count; thread_count = i.thread_count; issued = i.roll.issued; spare = i.roll.spare } in
    let live = rw (← c.self.view_is) at c.requires in
    let held = c.self.invariant.kernels.enrolled.loaded c.args.ident c.in-Kernel.is live in
    rw (← c.self.view_is) (kernels-locking v c.lock.new.self v.kernel_count v.spare c.args.ident c.in-Kernel.is true held (ap (λ (k : Kept KernelRec). k.cells) c.lock.ensures.cells))

pub invariant_of-self-in-Space : goal.invariant_of-self-in-Space
invariant_of-self-in-Space c =
    let i = c.self.inside in
    let v : Contents = record { kernels = i.kernels; spaces = i.spaces; threads = i.threads; rows = i.rows; kernel_count = i.kernel_count; space_count = i.space_count; thread_count = i.thread_count; issued = i.roll.issued; spare = i.roll.spare } in
    let live = rw (← c.self.view_is) at c.requires in
    let held = c.self.invariant.spaces.enrolled.loaded c.args.ident c.in-Space.is live in
    spaces-sound_changing v c.self.invariant c.lock-in-Space.new.self v.spare c.args.ident (cells.with_lock true) (λ l. refl) held (ap (λ (k : Kept SpaceRec). k.cells) c.lock-in-Space.ensures.cells) c.lock-in-Space.ensures.enrolled (numbered-keeps space_rec.name_of space_named v.spaces c.lock-in-Space.new.self v.space_count c.self.invariant.space_names c.lock-in-Space.ensures.contents)

pub returns-in-Space-clause-residents : goal.returns-in-Space-clause-residents
returns-in-Space-clause-residents c =
    let i = c.self.inside in
    let v : Contents = record { kernels = i.kernels; spaces = i.spaces; threads = i.threads; rows = i.rows; kernel_count = i.kernel_count; space_count = i.space_count; thread_count = i.thread_count; issued = i.roll.issued; spare = i.roll.spare } in
    let live = rw (← c.self.view_is) at c.requires in
    let held = c.self.invariant.spaces.enrolled.loaded c.args.ident c.in-Space.is live in
    rw (← c.self.view_is) (spaces-locking v c.lock-in-Space.new.self v.space_count v.spare c.args.ident c.in-Space.is true held (ap (λ (k : Kept SpaceRec). k.cells) c.lock-in-Space.ensures.cells))

pub invariant_of-self-in-Thread : goal.invariant_of-self-in-Thread
invariant_of-self-in-Thread c =
    let i = c.self.inside in
    let v : Contents = record { kernels = i.kernels; spaces = i.spaces; threads = i.threads; rows = i.rows; kernel_count = i.kernel_count; space_count = i.space_count; thread_count = i.thread_count; issued = i.roll.issued; spare = i.roll.spare } in
    let live = rw (← c.self.view_is) at c.requires in
    let held = c.self.invariant.threads.enrolled.loaded c.args.ident c.in-Thread.is live in
    threads-sound_changing v c.self.invariant c.lock-in-Thread.new.self v.spare c.args.ident (cells.with_lock true) (λ l. refl) held (ap (λ (k : Kept ThreadRec). k.cells) c.lock-in-Thread.ensures.cells) c.lock-in-Thread.ensures.enrolled (numbered-keeps thread_rec.name_of thread_named v.threads c.lock-in-Thread.new.self v.thread_count c.self.invariant.thread_names c.lock-in-Thread.ensures.contents)

pub returns-in-Thread-clause-residents : goal.returns-in-Thread-clause-residents
returns-in-Thread-clause-residents c =
    let i = c.self.inside in
    let v : Contents = record { kernels = i.kernels; spaces = i.spaces; threads = i.threads; rows = i.rows; kernel_count = i.kernel_count; space_count = i.space_count; thread_count = i.thread_count; issued = i.roll.issued; spare = i.roll.spare } in
    let live = rw (← c.self.view_is) at c.requires in
    let held = c.self.invariant.threads.enrolled.loaded c.args.ident c.in-Thread.is live in
    rw (← c.self.view_is) (threads-locking v c.lock-in-Thread.new.self v.thread_count v.spare c.args.ident c.in-Thread.is true held (ap (λ (k : Kept ThreadRec). k.cells) c.lock-in-Thread.ensures.cells))

pub invariant_of-self-in-Mapping : goal.invariant_of-self-in-Mapping
invariant_of-self-in-Mapping c =
    let i = c.self.inside in
    let v : Contents = record { kernels = i.kernels; spaces = i.spaces; threads = i.threads; rows = i.rows; kernel_count = i.kernel_count; space_count = i.space_count; thread_count = i.thread_count; issued = i.roll.issued; spare = i.roll.spare } in
    let live = rw (← c.self.view_is) at c.requires in
    let held = c.self.invariant.rows.enrolled.loaded c.args.ident c.in-Mapping.is live in
    rows-sound_changing v c.self.invariant c.lock-in-Mapping.new.self.kept c.lock-in-Mapping.new.self v.spare c.args.ident (cells.with_lock true) (λ l. refl) held (ap (λ (k : Kept Row). k.cells) c.lock-in-Mapping.ensures.cells) c.lock-in-Mapping.ensures.enrolled

pub returns-in-Mapping-clause-residents : goal.returns-in-Mapping-clause-residents
returns-in-Mapping-clause-residents c =
    let i = c.self.inside in
    let v : Contents = record { kernels = i.kernels; spaces = i.spaces; threads = i.threads; rows = i.rows; kernel_count = i.kernel_count; space_count = i.space_count; thread_count = i.thread_count; issued = i.roll.issued; spare = i.roll.spare } in
    let live = rw (← c.self.view_is) at c.requires in
    let held = c.self.invariant.rows.enrolled.loaded c.args.ident c.in-Mapping.is live in
    rw (← c.self.view_is) (rows-locking v c.lock-in-Mapping.new.self.kept c.lock-in-Mapping.new.self v.spare c.args.ident c.in-Mapping.is true held (ap (λ (k : Kept Row). k.cells) c.lock-in-Mapping.ensures.cells))
