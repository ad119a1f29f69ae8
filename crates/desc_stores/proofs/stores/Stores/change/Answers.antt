use Rattle.std.proofs.Common.{ap, refl}
use Rattle.phys_groups.specs.declared.rows.Row.{Row}
use Rattle.slot_cache.specs.Cells as cells
use Rattle.kernel_cache.specs.declared.KernelRec.{KernelRec}
use Rattle.kernel_cache.specs.Kernels as kernel_rec
use Rattle.space_cache.specs.declared.SpaceRec.{SpaceRec}
use Rattle.space_cache.specs.Spaces as space_rec
use Rattle.thread_cache.specs.declared.ThreadRec.{ThreadRec}
use Rattle.thread_cache.specs.Threads as thread_rec
use Rattle.kind_store.specs.Kept.{Kept}
use Rattle.desc_stores.specs.Contents.{Contents}
use Rattle.desc_stores.specs.Sound.{kernel_named, space_named, thread_named}
use Rattle.desc_stores.proofs.SoundLemmas.{kernels-sound_changing, spaces-sound_changing, threads-sound_changing, rows-sound_changing}
use Rattle.desc_stores.proofs.KindLemmas.{kernels-changing, spaces-changing, threads-changing, rows-changing}
use Rattle.desc_stores.proofs.ChangeLemmas.{numbered-changing, rows_agreed, kernels_held, kernels_kind, kernels_named, spaces_held, spaces_kind, spaces_named, threads_held, threads_kind, threads_named, rows_held, rows_kind, rows_named}
use Rattle.desc_stores.proofs.stores.Stores.change.Goals as goal

pub change-requires-clause-loaded : goal.change-requires-clause-loaded
change-requires-clause-loaded c =
    let i = c.self.inside in
    let v : Contents = record { kernels = i.kernels; spaces = i.spaces; threads = i.threads; rows = i.rows; kernel_count = i.kernel_count; space_count = i.space_count; thread_count = i.thread_count; issued = i.roll.issued; spare = i.roll.spare } in
    let live = rw (← c.self.view_is) at c.requires.live in
    let agrees = rw (← c.self.view_is, c.in-Kernel.is) at c.requires.agrees in
    kernels_held v c.self.invariant c.args.ident live c.in-Kernel.kernel agrees

pub change-requires-clause-name : goal.change-requires-clause-name
change-requires-clause-name c =
    let i = c.self.inside in
    let v : Contents = record { kernels = i.kernels; spaces = i.spaces; threads = i.threads; rows = i.rows; kernel_count = i.kernel_count; space_count = i.space_count; thread_count = i.thread_count; issued = i.roll.issued; spare = i.roll.spare } in
    let live = rw (← c.self.view_is) at c.requires.live in
    let agrees = rw (← c.self.view_is, c.in-Kernel.is) at c.requires.agrees in
    kernels_named v c.self.invariant c.args.ident live c.in-Kernel.kernel agrees

pub invariant_of-self : goal.invariant_of-self
invariant_of-self c =
    let i = c.self.inside in
    let v : Contents = record { kernels = i.kernels; spaces = i.spaces; threads = i.threads; rows = i.rows; kernel_count = i.kernel_count; space_count = i.space_count; thread_count = i.thread_count; issued = i.roll.issued; spare = i.roll.spare } in
    let live = rw (← c.self.view_is) at c.requires.live in
    let agrees = rw (← c.self.view_is, c.in-Kernel.is) at c.requires.agrees in
    kernels-sound_changing v c.self.invariant c.change.new.self v.spare c.args.ident (cells.with_value c.in-Kernel.kernel) (λ l. refl) (kernels_held v c.self.invariant c.args.ident live c.in-Kernel.kernel agrees) (ap (λ (k : Kept KernelRec). k.cells) c.change.ensures.after) c.change.ensures.enrolled (numbered-changing kernel_rec.name_of kernel_named v.kernels c.change.new.self v.kernel_count c.args.ident c.in-Kernel.kernel (kernels_held v c.self.invariant c.args.ident live c.in-Kernel.kernel agrees) (kernels_named v c.self.invariant c.args.ident live c.in-Kernel.kernel agrees) c.self.invariant.kernel_names c.change.ensures.contents)

pub returns-in-Kernel-clause-residents : goal.returns-in-Kernel-clause-residents
returns-in-Kernel-clause-residents c =
    let i = c.self.inside in
    let v : Contents = record { kernels = i.kernels; spaces = i.spaces; threads = i.threads; rows = i.rows; kernel_count = i.kernel_count; space_count = i.space_count; thread_count = i.thread_count; issued = i.roll.issued; spare = i.roll.spare } in
    let live = rw (← c.self.view_is) at c.requires.live in
    let agrees = rw (← c.self.view_is, c.in-Kernel.is) at c.requires.agrees in
    rw (← c.self.view_is) (kernels-changing v c.change.new.self v.kernel_count v.spare c.args.ident (kernels_kind v c.self.invariant c.args.ident live c.in-Kernel.kernel agrees) c.in-Kernel.kernel (kernels_held v c.self.invariant c.args.ident live c.in-Kernel.kernel agrees) (kernels_named v c.self.invariant c.args.ident live c.in-Kernel.kernel agrees) (ap (λ (k : Kept KernelRec). k.cells) c.change.ensures.after))

pub change-requires-in-Space-clause-loaded : goal.change-requires-in-Space-clause-loaded
change-requires-in-Space-clause-loaded c =
    let i = c.self.inside in
    let v : Contents = record { kernels = i.kernels; spaces = i.spaces; threads = i.threads; rows = i.rows; kernel_count = i.kernel_count; space_count = i.space_count; thread_count = i.thread_count; issued = i.roll.issued; spare = i.roll.spare } in
    let live = rw (← c.self.view_is) at c.requires.live in
    let agrees = rw (← c.self.view_is, c.in-Space.is) at c.requires.agrees in
    spaces_held v c.self.invariant c.args.ident live c.in-Space.space agrees

pub change-requires-in-Space-clause-name : goal.change-requires-in-Space-clause-name
change-requires-in-Space-clause-name c =
    let i = c.self.inside in
    let v : Contents = record { kernels = i.kernels; spaces = i.spaces; threads = i.threads; rows = i.rows; kernel_count = i.kernel_count; space_count = i.space_count; thread_count = i.thread_count; issued = i.roll.issued; spare = i.roll.spare } in
    let live = rw (← c.self.view_is) at c.requires.live in
    let agrees = rw (← c.self.view_is, c.in-Space.is) at c.requires.agrees in
    spaces_named v c.self.invariant c.args.ident live c.in-Space.space agrees

pub invariant_of-self-in-Space : goal.invariant_of-self-in-Space
invariant_of-self-in-Space c =
    let i = c.self.inside in
    let v : Contents = record { kernels = i.kernels; spaces = i.spaces; threads = i.threads; rows = i.rows; kernel_count = i.kernel_count; space_count = i.space_count; thread_count = i.thread_count; issued = i.roll.issued; spare = i.roll.spare } in
    let live = rw (← c.self.view_is) at c.requires.live in
    let agrees = rw (← c.self.view_is, c.in-Space.is) at c.requires.agrees in
    spaces-sound_changing v c.self.invariant c.change-in-Space.new.self v.spare c.args.ident (cells.with_value c.in-Space.space) (λ l. refl) (spaces_held v c.self.invariant c.args.ident live c.in-Space.space agrees) (ap (λ (k : Kept SpaceRec). k.cells) c.change-in-Space.ensures.after) c.change-in-Space.ensures.enrolled (numbered-changing space_rec.name_of space_named v.spaces c.change-in-Space.new.self v.space_count c.args.ident c.in-Space.space (spaces_held v c.self.invariant c.args.ident live c.in-Space.space agrees) (spaces_named v c.self.invariant c.args.ident live c.in-Space.space agrees) c.self.invariant.space_names c.change-in-Space.ensures.contents)

pub returns-in-Space-clause-residents : goal.returns-in-Space-clause-residents
returns-in-Space-clause-residents c =
    let i = c.self.inside in
    let v : Contents = record { kernels = i.kernels; spaces = i.spaces; threads = i.threads; rows = i.rows; kernel_count = i.kernel_count; space_count = i.space_count; thread_count = i.thread_count; issued = i.roll.issued; spare = i.roll.spare } in
    let live = rw (← c.self.view_is) at c.requires.live in
    let agrees = rw (← c.self.view_is, c.in-Space.is) at c.requires.agrees in
    rw (← c.self.view_is) (spaces-changing v c.change-in-Space.new.self v.space_count v.spare c.args.ident (spaces_kind v c.self.invariant c.args.ident live c.in-Space.space agrees) c.in-Space.space (spaces_held v c.self.invariant c.args.ident live c.in-Space.space agrees) (spaces_named v c.self.invariant c.args.ident live c.in-Space.space agrees) (ap (λ (k : Kept SpaceRec). k.cells) c.change-in-Space.ensures.after))

pub change-requires-in-Thread-clause-loaded : goal.change-requires-in-Thread-clause-loaded
change-requires-in-Thread-clause-loaded c =
    let i = c.self.inside in
    let v : Contents = record { kernels = i.kernels; spaces = i.spaces; threads = i.threads; rows = i.rows; kernel_count = i.kernel_count; space_count = i.space_count; thread_count = i.thread_count; issued = i.roll.issued; spare = i.roll.spare } in
    let live = rw (← c.self.view_is) at c.requires.live in
    let agrees = rw (← c.self.view_is, c.in-Thread.is) at c.requires.agrees in
    threads_held v c.self.invariant c.args.ident live c.in-Thread.thread agrees

pub change-requires-in-Thread-clause-name : goal.change-requires-in-Thread-clause-name
change-requires-in-Thread-clause-name c =
    let i = c.self.inside in
    let v : Contents = record { kernels = i.kernels; spaces = i.spaces; threads = i.threads; rows = i.rows; kernel_count = i.kernel_count; space_count = i.space_count; thread_count = i.thread_count; issued = i.roll.issued; spare = i.roll.spare } in
    let live = rw (← c.self.view_is) at c.requires.live in
    let agrees = rw (← c.self.view_is, c.in-Thread.is) at c.requires.agrees in
    threads_named v c.self.invariant c.args.ident live c.in-Thread.thread agrees

pub invariant_of-self-in-Thread : goal.invariant_of-self-in-Thread
invariant_of-self-in-Thread c =
    let i = c.self.inside in
    let v : Contents = record { kernels = i.kernels; spaces = i.spaces; threads = i.threads; rows = i.rows; kernel_count = i.kernel_count; space_count = i.space_count; thread_count = i.thread_count; issued = i.roll.issued; spare = i.roll.spare } in
    let live = rw (← c.self.view_is) at c.requires.live in
    let agrees = rw (← c.self.view_is, c.in-Thread.is) at c.requires.agrees in
    threads-sound_changing v c.self.invariant c.change-in-Thread.new.self v.spare c.args.ident (cells.with_value c.in-Thread.thread) (λ l. refl) (threads_held v c.self.invariant c.args.ident live c.in-Thread.thread agrees) (ap (λ (k : Kept ThreadRec). k.cells) c.change-in-Thread.ensures.after) c.change-in-Thread.ensures.enrolled (numbered-changing thread_rec.name_of thread_named v.threads c.change-in-Thread.new.self v.thread_count c.args.ident c.in-Thread.thread (threads_held v c.self.invariant c.args.ident live c.in-Thread.thread agrees) (threads_named v c.self.invariant c.args.ident live c.in-Thread.thread agrees) c.self.invariant.thread_names c.change-in-Thread.ensures.contents)

pub returns-in-Thread-clause-residents : goal.returns-in-Thread-clause-residents
returns-in-Thread-clause-residents c =
    let i = c.self.inside in
    let v : Contents = record { kernels = i.kernels; spaces = i.spaces; threads = i.threads; rows = i.rows; kernel_count = i.kernel_count; space_count = i.space_count; thread_count = i.thread_count; issued = i.roll.issued; spare = i.roll.spare } in
    let live = rw (← c.self.view_is) at c.requires.live in
    let agrees = rw (← c.self.view_is, c.in-Thread.is) at c.requires.agrees in
    rw (← c.self.view_is) (threads-changing v c.change-in-Thread.new.self v.thread_count v.spare c.args.ident (threads_kind v c.self.invariant c.args.ident live c.in-Thread.thread agrees) c.in-Thread.thread (threads_held v c.self.invariant c.args.ident live c.in-Thread.thread agrees) (threads_named v c.self.invariant c.args.ident live c.in-Thread.thread agrees) (ap (λ (k : Kept ThreadRec). k.cells) c.change-in-Thread.ensures.after))

pub change-requires-in-Mapping-clause-loaded : goal.change-requires-in-Mapping-clause-loaded
change-requires-in-Mapping-clause-loaded c =
    let i = c.self.inside in
    let v : Contents = record { kernels = i.kernels; spaces = i.spaces; threads = i.threads; rows = i.rows; kernel_count = i.kernel_count; space_count = i.space_count; thread_count = i.thread_count; issued = i.roll.issued; spare = i.roll.spare } in
    let live = rw (← c.self.view_is) at c.requires.live in
    let agrees = rw (← c.self.view_is, c.in-Mapping.is) at c.requires.agrees in
    rows_held v c.self.invariant c.args.ident live c.in-Mapping.row agrees

pub change-requires-in-Mapping-clause-name : goal.change-requires-in-Mapping-clause-name
change-requires-in-Mapping-clause-name c =
    let i = c.self.inside in
    let v : Contents = record { kernels = i.kernels; spaces = i.spaces; threads = i.threads; rows = i.rows; kernel_count = i.kernel_count; space_count = i.space_count; thread_count = i.thread_count; issued = i.roll.issued; spare = i.roll.spare } in
    let live = rw (← c.self.view_is) at c.requires.live in
    let agrees = rw (← c.self.view_is, c.in-Mapping.is) at c.requires.agrees in
    rows_named v c.self.invariant c.args.ident live c.in-Mapping.row agrees

pub change-requires-in-Mapping-clause-frame : goal.change-requires-in-Mapping-clause-frame
change-requires-in-Mapping-clause-frame c =
    let i = c.self.inside in
    let v : Contents = record { kernels = i.kernels; spaces = i.spaces; threads = i.threads; rows = i.rows; kernel_count = i.kernel_count; space_count = i.space_count; thread_count = i.thread_count; issued = i.roll.issued; spare = i.roll.spare } in
    let live = rw (← c.self.view_is) at c.requires.live in
    let agrees = rw (← c.self.view_is, c.in-Mapping.is) at c.requires.agrees in
    (λ l there. (rows_agreed v c.self.invariant c.args.ident live c.in-Mapping.row agrees l there).1)

pub change-requires-in-Mapping-clause-flags : goal.change-requires-in-Mapping-clause-flags
change-requires-in-Mapping-clause-flags c =
    let i = c.self.inside in
    let v : Contents = record { kernels = i.kernels; spaces = i.spaces; threads = i.threads; rows = i.rows; kernel_count = i.kernel_count; space_count = i.space_count; thread_count = i.thread_count; issued = i.roll.issued; spare = i.roll.spare } in
    let live = rw (← c.self.view_is) at c.requires.live in
    let agrees = rw (← c.self.view_is, c.in-Mapping.is) at c.requires.agrees in
    (λ l there. (rows_agreed v c.self.invariant c.args.ident live c.in-Mapping.row agrees l there).2)

pub change-requires-in-Mapping-clause-receiver : goal.change-requires-in-Mapping-clause-receiver
change-requires-in-Mapping-clause-receiver c =
    let i = c.self.inside in
    let v : Contents = record { kernels = i.kernels; spaces = i.spaces; threads = i.threads; rows = i.rows; kernel_count = i.kernel_count; space_count = i.space_count; thread_count = i.thread_count; issued = i.roll.issued; spare = i.roll.spare } in
    let live = rw (← c.self.view_is) at c.requires.live in
    let agrees = rw (← c.self.view_is, c.in-Mapping.is) at c.requires.agrees in
    (λ l there. (rows_agreed v c.self.invariant c.args.ident live c.in-Mapping.row agrees l there).3)

pub invariant_of-self-in-Mapping : goal.invariant_of-self-in-Mapping
invariant_of-self-in-Mapping c =
    let i = c.self.inside in
    let v : Contents = record { kernels = i.kernels; spaces = i.spaces; threads = i.threads; rows = i.rows; kernel_count = i.kernel_count; space_count = i.space_count; thread_count = i.thread_count; issued = i.roll.issued; spare = i.roll.spare } in
    let live = rw (← c.self.view_is) at c.requires.live in
    let agrees = rw (← c.self.view_is, c.in-Mapping.is) at c.requires.agrees in
    rows-sound_changing v c.self.invariant c.change-in-Mapping.new.self.kept c.change-in-Mapping.new.self v.spare c.args.ident (cells.with_value c.in-Mapping.row) (λ l. refl) (rows_held v c.self.invariant c.args.ident live c.in-Mapping.row agrees) (ap (λ (k : Kept Row). k.cells) c.change-in-Mapping.ensures.after) c.change-in-Mapping.ensures.enrolled

pub returns-in-Mapping-clause-residents : goal.returns-in-Mapping-clause-residents
returns-in-Mapping-clause-residents c =
    let i = c.self.inside in
    let v : Contents = record { kernels = i.kernels; spaces = i.spaces; threads = i.threads; rows = i.rows; kernel_count = i.kernel_count; space_count = i.space_count; thread_count = i.thread_count; issued = i.roll.issued; spare = i.roll.spare } in
    let live = rw (← c.self.view_is) at c.requires.live in
    let agrees = rw (← c.self.view_is, c.in-Mapping.is) at c.requires.agrees in
    rw (← c.self.view_is) (rows-changing v c.change-in-Mapping.new.self.kept c.change-in-Mapping.new.self v.spare c.args.ident (rows_kind v c.self.invariant c.args.ident live c.in-Mapping.row agrees) c.in-Mapping.row (rows_held v c.self.invariant c.args.ident live c.in-Mapping.row agrees) (rows_named v c.self.invariant c.args.ident live c.in-Mapping.row agrees) (ap (λ (k : Kept Row). k.cells) c.change-in-Mapping.ensures.after))
