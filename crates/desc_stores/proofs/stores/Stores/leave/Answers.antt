use Rattle.std.proofs.Common.{◌≡◌, Some, ap, subst}
use Rattle.cache_ident.specs.Rolls.{Issues}
use Rattle.phys_groups.specs.declared.rows.Row.{Row}
use Rattle.slot_cache.specs.Rows.{row_name}
use Rattle.kernel_cache.specs.declared.KernelRec.{KernelRec}
use Rattle.kernel_cache.specs.Kernels as kernel_rec
use Rattle.space_cache.specs.declared.SpaceRec.{SpaceRec}
use Rattle.space_cache.specs.Spaces as space_rec
use Rattle.thread_cache.specs.declared.ThreadRec.{ThreadRec}
use Rattle.thread_cache.specs.Threads as thread_rec
use Rattle.desc_stores.specs.Contents.{resident_of, Contents}
use Rattle.desc_stores.proofs.SoundLemmas.{kernels-sound_leaving, spaces-sound_leaving, threads-sound_leaving, rows-sound_leaving}
use Rattle.desc_stores.proofs.KindLemmas.{kernels-leaving, kernels_keeps, kernels_resident, spaces-leaving, spaces_keeps, spaces_resident, threads-leaving, threads_keeps, threads_resident, rows-leaving, rows_keeps, rows_resident}
use Rattle.desc_stores.proofs.stores.Stores.leave.Goals as goal

pub invariant_of-self : goal.invariant_of-self
invariant_of-self c =
    let i = c.self.inside in
    let v : Contents = record { kernels = i.kernels; spaces = i.spaces; threads = i.threads; rows = i.rows; kernel_count = i.kernel_count; space_count = i.space_count; thread_count = i.thread_count; issued = i.roll.issued; spare = i.roll.spare } in
    let live = rw (← c.self.view_is) at c.requires in
    let held = c.self.invariant.kernels.enrolled.loaded c.args.ident c.in-Kernel.is live in
    let left = ap (λ (r : Issues). r.issued) c.leave.ensures.departed in
    kernels-sound_leaving v c.self.invariant c.leave.new.self c.leave.new.roll.spare c.leave.new.roll.issued c.args.ident c.args.at left c.in-Kernel.is held c.leave.ensures.moved.cells c.leave.ensures.enrolled c.leave.ensures.contents

pub returns-in-Kernel-clause-contents : goal.returns-in-Kernel-clause-contents
returns-in-Kernel-clause-contents c =
    let i = c.self.inside in
    let v : Contents = record { kernels = i.kernels; spaces = i.spaces; threads = i.threads; rows = i.rows; kernel_count = i.kernel_count; space_count = i.space_count; thread_count = i.thread_count; issued = i.roll.issued; spare = i.roll.spare } in
    rw (← c.self.view_is) (kernels_keeps v c.leave.new.self v.kernel_count c.leave.new.roll.issued c.leave.new.roll.spare c.leave.ensures.contents)

pub returns-in-Kernel-clause-residents : goal.returns-in-Kernel-clause-residents
returns-in-Kernel-clause-residents c =
    let i = c.self.inside in
    let v : Contents = record { kernels = i.kernels; spaces = i.spaces; threads = i.threads; rows = i.rows; kernel_count = i.kernel_count; space_count = i.space_count; thread_count = i.thread_count; issued = i.roll.issued; spare = i.roll.spare } in
    let live = rw (← c.self.view_is) at c.requires in
    let held = c.self.invariant.kernels.enrolled.loaded c.args.ident c.in-Kernel.is live in
    let left = ap (λ (r : Issues). r.issued) c.leave.ensures.departed in
    rw (← c.self.view_is) (kernels-leaving v c.leave.new.self v.kernel_count c.leave.new.roll.spare c.args.ident c.in-Kernel.is c.leave.new.roll.issued c.args.at left held c.leave.ensures.moved.cells)

pub returns-in-Kernel-clause-owned : goal.returns-in-Kernel-clause-owned
returns-in-Kernel-clause-owned c =
    let i = c.self.inside in
    let v : Contents = record { kernels = i.kernels; spaces = i.spaces; threads = i.threads; rows = i.rows; kernel_count = i.kernel_count; space_count = i.space_count; thread_count = i.thread_count; issued = i.roll.issued; spare = i.roll.spare } in
    rw (← c.self.view_is) (λ owner_of of_resident owned. record {
      kernels = c.leave.ensures.owned owner_of (λ value content. subst (λ (x : KernelRec). owner_of (kernel_rec.name_of x) ≡ Some c.args.owner) content.3 (of_resident (resident_of kernel_rec.name_of content.0) (kernels_resident v c.args.ident content.0 c.in-Kernel.is content.1 content.2))) owned.kernels;
      spaces = owned.spaces;
      threads = owned.threads;
      rows = owned.rows;
    })

pub invariant_of-self-in-Space : goal.invariant_of-self-in-Space
invariant_of-self-in-Space c =
    let i = c.self.inside in
    let v : Contents = record { kernels = i.kernels; spaces = i.spaces; threads = i.threads; rows = i.rows; kernel_count = i.kernel_count; space_count = i.space_count; thread_count = i.thread_count; issued = i.roll.issued; spare = i.roll.spare } in
    let live = rw (← c.self.view_is) at c.requires in
    let held = c.self.invariant.spaces.enrolled.loaded c.args.ident c.in-Space.is live in
    let left = ap (λ (r : Issues). r.issued) c.leave-in-Space.ensures.departed in
    spaces-sound_leaving v c.self.invariant c.leave-in-Space.new.self c.leave-in-Space.new.roll.spare c.leave-in-Space.new.roll.issued c.args.ident c.args.at left c.in-Space.is held c.leave-in-Space.ensures.moved.cells c.leave-in-Space.ensures.enrolled c.leave-in-Space.ensures.contents

pub returns-in-Space-clause-contents : goal.returns-in-Space-clause-contents
returns-in-Space-clause-contents c =
    let i = c.self.inside in
    let v : Contents = record { kernels = i.kernels; spaces = i.spaces; threads = i.threads; rows = i.rows; kernel_count = i.kernel_count; space_count = i.space_count; thread_count = i.thread_count; issued = i.roll.issued; spare = i.roll.spare } in
    rw (← c.self.view_is) (spaces_keeps v c.leave-in-Space.new.self v.space_count c.leave-in-Space.new.roll.issued c.leave-in-Space.new.roll.spare c.leave-in-Space.ensures.contents)

pub returns-in-Space-clause-residents : goal.returns-in-Space-clause-residents
returns-in-Space-clause-residents c =
    let i = c.self.inside in
    let v : Contents = record { kernels = i.kernels; spaces = i.spaces; threads = i.threads; rows = i.rows; kernel_count = i.kernel_count; space_count = i.space_count; thread_count = i.thread_count; issued = i.roll.issued; spare = i.roll.spare } in
    let live = rw (← c.self.view_is) at c.requires in
    let held = c.self.invariant.spaces.enrolled.loaded c.args.ident c.in-Space.is live in
    let left = ap (λ (r : Issues). r.issued) c.leave-in-Space.ensures.departed in
    rw (← c.self.view_is) (spaces-leaving v c.leave-in-Space.new.self v.space_count c.leave-in-Space.new.roll.spare c.args.ident c.in-Space.is c.leave-in-Space.new.roll.issued c.args.at left held c.leave-in-Space.ensures.moved.cells)

pub returns-in-Space-clause-owned : goal.returns-in-Space-clause-owned
returns-in-Space-clause-owned c =
    let i = c.self.inside in
    let v : Contents = record { kernels = i.kernels; spaces = i.spaces; threads = i.threads; rows = i.rows; kernel_count = i.kernel_count; space_count = i.space_count; thread_count = i.thread_count; issued = i.roll.issued; spare = i.roll.spare } in
    rw (← c.self.view_is) (λ owner_of of_resident owned. record {
      kernels = owned.kernels;
      spaces = c.leave-in-Space.ensures.owned owner_of (λ value content. subst (λ (x : SpaceRec). owner_of (space_rec.name_of x) ≡ Some c.args.owner) content.3 (of_resident (resident_of space_rec.name_of content.0) (spaces_resident v c.args.ident content.0 c.in-Space.is content.1 content.2))) owned.spaces;
      threads = owned.threads;
      rows = owned.rows;
    })

pub invariant_of-self-in-Thread : goal.invariant_of-self-in-Thread
invariant_of-self-in-Thread c =
    let i = c.self.inside in
    let v : Contents = record { kernels = i.kernels; spaces = i.spaces; threads = i.threads; rows = i.rows; kernel_count = i.kernel_count; space_count = i.space_count; thread_count = i.thread_count; issued = i.roll.issued; spare = i.roll.spare } in
    let live = rw (← c.self.view_is) at c.requires in
    let held = c.self.invariant.threads.enrolled.loaded c.args.ident c.in-Thread.is live in
    let left = ap (λ (r : Issues). r.issued) c.leave-in-Thread.ensures.departed in
    threads-sound_leaving v c.self.invariant c.leave-in-Thread.new.self c.leave-in-Thread.new.roll.spare c.leave-in-Thread.new.roll.issued c.args.ident c.args.at left c.in-Thread.is held c.leave-in-Thread.ensures.moved.cells c.leave-in-Thread.ensures.enrolled c.leave-in-Thread.ensures.contents

pub returns-in-Thread-clause-contents : goal.returns-in-Thread-clause-contents
returns-in-Thread-clause-contents c =
    let i = c.self.inside in
    let v : Contents = record { kernels = i.kernels; spaces = i.spaces; threads = i.threads; rows = i.rows; kernel_count = i.kernel_count; space_count = i.space_count; thread_count = i.thread_count; issued = i.roll.issued; spare = i.roll.spare } in
    rw (← c.self.view_is) (threads_keeps v c.leave-in-Thread.new.self v.thread_count c.leave-in-Thread.new.roll.issued c.leave-in-Thread.new.roll.spare c.leave-in-Thread.ensures.contents)

pub returns-in-Thread-clause-residents : goal.returns-in-Thread-clause-residents
returns-in-Thread-clause-residents c =
    let i = c.self.inside in
    let v : Contents = record { kernels = i.kernels; spaces = i.spaces; threads = i.threads; rows = i.rows; kernel_count = i.kernel_count; space_count = i.space_count; thread_count = i.thread_count; issued = i.roll.issued; spare = i.roll.spare } in
    let live = rw (← c.self.view_is) at c.requires in
    let held = c.self.invariant.threads.enrolled.loaded c.args.ident c.in-Thread.is live in
    let left = ap (λ (r : Issues). r.issued) c.leave-in-Thread.ensures.departed in
    rw (← c.self.view_is) (threads-leaving v c.leave-in-Thread.new.self v.thread_count c.leave-in-Thread.new.roll.spare c.args.ident c.in-Thread.is c.leave-in-Thread.new.roll.issued c.args.at left held c.leave-in-Thread.ensures.moved.cells)

pub returns-in-Thread-clause-owned : goal.returns-in-Thread-clause-owned
returns-in-Thread-clause-owned c =
    let i = c.self.inside in
    let v : Contents = record { kernels = i.kernels; spaces = i.spaces; threads = i.threads; rows = i.rows; kernel_count = i.kernel_count; space_count = i.space_count; thread_count = i.thread_count; issued = i.roll.issued; spare = i.roll.spare } in
    rw (← c.self.view_is) (λ owner_of of_resident owned. record {
      kernels = owned.kernels;
      spaces = owned.spaces;
      threads = c.leave-in-Thread.ensures.owned owner_of (λ value content. subst (λ (x : ThreadRec). owner_of (thread_rec.name_of x) ≡ Some c.args.owner) content.3 (of_resident (resident_of thread_rec.name_of content.0) (threads_resident v c.args.ident content.0 c.in-Thread.is content.1 content.2))) owned.threads;
      rows = owned.rows;
    })

pub invariant_of-self-in-Mapping : goal.invariant_of-self-in-Mapping
invariant_of-self-in-Mapping c =
    let i = c.self.inside in
    let v : Contents = record { kernels = i.kernels; spaces = i.spaces; threads = i.threads; rows = i.rows; kernel_count = i.kernel_count; space_count = i.space_count; thread_count = i.thread_count; issued = i.roll.issued; spare = i.roll.spare } in
    let live = rw (← c.self.view_is) at c.requires in
    let held = c.self.invariant.rows.enrolled.loaded c.args.ident c.in-Mapping.is live in
    let left = ap (λ (r : Issues). r.issued) c.leave-in-Mapping.ensures.departed in
    rows-sound_leaving v c.self.invariant c.leave-in-Mapping.new.self.kept c.leave-in-Mapping.new.self c.leave-in-Mapping.new.roll.spare c.leave-in-Mapping.new.roll.issued c.args.ident c.args.at left c.in-Mapping.is held c.leave-in-Mapping.ensures.moved.cells c.leave-in-Mapping.ensures.enrolled c.leave-in-Mapping.ensures.contents

pub returns-in-Mapping-clause-contents : goal.returns-in-Mapping-clause-contents
returns-in-Mapping-clause-contents c =
    let i = c.self.inside in
    let v : Contents = record { kernels = i.kernels; spaces = i.spaces; threads = i.threads; rows = i.rows; kernel_count = i.kernel_count; space_count = i.space_count; thread_count = i.thread_count; issued = i.roll.issued; spare = i.roll.spare } in
    rw (← c.self.view_is) (rows_keeps v c.leave-in-Mapping.new.self.kept c.leave-in-Mapping.new.self c.leave-in-Mapping.new.roll.issued c.leave-in-Mapping.new.roll.spare c.leave-in-Mapping.ensures.contents)

pub returns-in-Mapping-clause-residents : goal.returns-in-Mapping-clause-residents
returns-in-Mapping-clause-residents c =
    let i = c.self.inside in
    let v : Contents = record { kernels = i.kernels; spaces = i.spaces; threads = i.threads; rows = i.rows; kernel_count = i.kernel_count; space_count = i.space_count; thread_count = i.thread_count; issued = i.roll.issued; spare = i.roll.spare } in
    let live = rw (← c.self.view_is) at c.requires in
    let held = c.self.invariant.rows.enrolled.loaded c.args.ident c.in-Mapping.is live in
    let left = ap (λ (r : Issues). r.issued) c.leave-in-Mapping.ensures.departed in
    rw (← c.self.view_is) (rows-leaving v c.leave-in-Mapping.new.self.kept c.leave-in-Mapping.new.self c.leave-in-Mapping.new.roll.spare c.args.ident c.in-Mapping.is c.leave-in-Mapping.new.roll.issued c.args.at left held c.leave-in-Mapping.ensures.moved.cells)

pub returns-in-Mapping-clause-owned : goal.returns-in-Mapping-clause-owned
returns-in-Mapping-clause-owned c =
    let i = c.self.inside in
    let v : Contents = record { kernels = i.kernels; spaces = i.spaces; threads = i.threads; rows = i.rows; kernel_count = i.kernel_count; space_count = i.space_count; thread_count = i.thread_count; issued = i.roll.issued; spare = i.roll.spare } in
    rw (← c.self.view_is) (λ owner_of of_resident owned. record {
      kernels = owned.kernels;
      spaces = owned.spaces;
      threads = owned.threads;
      rows = c.leave-in-Mapping.ensures.owned owner_of (λ value content. subst (λ (x : Row). owner_of (row_name x) ≡ Some c.args.owner) content.3 (of_resident (resident_of row_name content.0) (rows_resident v c.args.ident content.0 c.in-Mapping.is content.1 content.2))) owned.rows;
    })
