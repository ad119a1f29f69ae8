use Rattle.std.proofs.Common.{◌+◌, List, Option, ap, refl}
use Rattle.std.specs.Option.{option_map}
use Rattle.phys_groups.specs.declared.rows.Row.{Row}
use Rattle.slot_cache.specs.declared.loaded.Loaded.{Loaded}
use Rattle.slot_cache.specs.Rows.{row_name}
use Rattle.kernel_cache.specs.declared.KernelRec.{KernelRec}
use Rattle.kernel_cache.specs.Kernels as kernel_rec
use Rattle.space_cache.specs.declared.SpaceRec.{SpaceRec}
use Rattle.space_cache.specs.Spaces as space_rec
use Rattle.thread_cache.specs.declared.ThreadRec.{ThreadRec}
use Rattle.thread_cache.specs.Threads as thread_rec
use Rattle.desc_stores.specs.Contents.{resident_of, Contents}
use Rattle.kind_store.specs.Rolls.{loaded_as}
use Rattle.desc_stores.proofs.KindLemmas.{residents-same, kernels_all, spaces_all, threads_all, rows_all}
use Rattle.desc_stores.proofs.stores.Stores.declare.Goals as goal

pub returns-in-Kernel-clause-residents : goal.returns-in-Kernel-clause-residents
returns-in-Kernel-clause-residents c =
    let i = c.self.inside in
    let v : Contents = record { kernels = i.kernels; spaces = i.spaces; threads = i.threads; rows = i.rows; kernel_count = i.kernel_count; space_count = i.space_count; thread_count = i.thread_count; issued = i.roll.issued; spare = i.roll.spare } in
    let new : Contents = record v { kernels = c.declare.new.self; kernel_count = v.kernel_count + 1 } in
    rw (← c.self.view_is) (residents-same v new refl (kernels_all v c.declare.new.self (v.kernel_count + 1) v.issued v.spare (λ j. ap (λ (cells : List (Option (Loaded KernelRec))). option_map (resident_of kernel_rec.name_of) (loaded_as cells j)) c.declare.ensures.cells)))

pub returns-in-Kernel-clause-owned : goal.returns-in-Kernel-clause-owned
returns-in-Kernel-clause-owned c =
    let i = c.self.inside in
    let v : Contents = record { kernels = i.kernels; spaces = i.spaces; threads = i.threads; rows = i.rows; kernel_count = i.kernel_count; space_count = i.space_count; thread_count = i.thread_count; issued = i.roll.issued; spare = i.roll.spare } in
    rw (← c.self.view_is) (λ owner_of own owned. record {
      kernels = c.declare.ensures.owned owner_of (rw c.in-Kernel.is at own) owned.kernels;
      spaces = owned.spaces;
      threads = owned.threads;
      rows = owned.rows;
    })

pub returns-in-Space-clause-residents : goal.returns-in-Space-clause-residents
returns-in-Space-clause-residents c =
    let i = c.self.inside in
    let v : Contents = record { kernels = i.kernels; spaces = i.spaces; threads = i.threads; rows = i.rows; kernel_count = i.kernel_count; space_count = i.space_count; thread_count = i.thread_count; issued = i.roll.issued; spare = i.roll.spare } in
    let new : Contents = record v { spaces = c.declare-in-Space.new.self; space_count = v.space_count + 1 } in
    rw (← c.self.view_is) (residents-same v new refl (spaces_all v c.declare-in-Space.new.self (v.space_count + 1) v.issued v.spare (λ j. ap (λ (cells : List (Option (Loaded SpaceRec))). option_map (resident_of space_rec.name_of) (loaded_as cells j)) c.declare-in-Space.ensures.cells)))

pub returns-in-Space-clause-owned : goal.returns-in-Space-clause-owned
returns-in-Space-clause-owned c =
    let i = c.self.inside in
    let v : Contents = record { kernels = i.kernels; spaces = i.spaces; threads = i.threads; rows = i.rows; kernel_count = i.kernel_count; space_count = i.space_count; thread_count = i.thread_count; issued = i.roll.issued; spare = i.roll.spare } in
    rw (← c.self.view_is) (λ owner_of own owned. record {
      kernels = owned.kernels;
      spaces = c.declare-in-Space.ensures.owned owner_of (rw c.in-Space.is at own) owned.spaces;
      threads = owned.threads;
      rows = owned.rows;
    })

pub returns-in-Thread-clause-residents : goal.returns-in-Thread-clause-residents
returns-in-Thread-clause-residents c =
    let i = c.self.inside in
    let v : Contents = record { kernels = i.kernels; spaces = i.spaces; threads = i.threads; rows = i.rows; kernel_count = i.kernel_count; space_count = i.space_count; thread_count = i.thread_count; issued = i.roll.issued; spare = i.roll.spare } in
    let new : Contents = record v { threads = c.declare-in-Thread.new.self; thread_count = v.thread_count + 1 } in
    rw (← c.self.view_is) (residents-same v new refl (threads_all v c.declare-in-Thread.new.self (v.thread_count + 1) v.issued v.spare (λ j. ap (λ (cells : List (Option (Loaded ThreadRec))). option_map (resident_of thread_rec.name_of) (loaded_as cells j)) c.declare-in-Thread.ensures.cells)))

pub returns-in-Thread-clause-owned : goal.returns-in-Thread-clause-owned
returns-in-Thread-clause-owned c =
    let i = c.self.inside in
    let v : Contents = record { kernels = i.kernels; spaces = i.spaces; threads = i.threads; rows = i.rows; kernel_count = i.kernel_count; space_count = i.space_count; thread_count = i.thread_count; issued = i.roll.issued; spare = i.roll.spare } in
    rw (← c.self.view_is) (λ owner_of own owned. record {
      kernels = owned.kernels;
      spaces = owned.spaces;
      threads = c.declare-in-Thread.ensures.owned owner_of (rw c.in-Thread.is at own) owned.threads;
      rows = owned.rows;
    })

pub returns-in-Mapping-clause-residents : goal.returns-in-Mapping-clause-residents
returns-in-Mapping-clause-residents c =
    let i = c.self.inside in
    let v : Contents = record { kernels = i.kernels; spaces = i.spaces; threads = i.threads; rows = i.rows; kernel_count = i.kernel_count; space_count = i.space_count; thread_count = i.thread_count; issued = i.roll.issued; spare = i.roll.spare } in
    let new : Contents = record v { rows = c.declare-in-Mapping.new.self } in
    rw (← c.self.view_is) (residents-same v new refl (rows_all v c.declare-in-Mapping.new.self.kept c.declare-in-Mapping.new.self v.issued v.spare (λ j. ap (λ (cells : List (Option (Loaded Row))). option_map (resident_of row_name) (loaded_as cells j)) c.declare-in-Mapping.ensures.cells)))

pub returns-in-Mapping-clause-owned : goal.returns-in-Mapping-clause-owned
returns-in-Mapping-clause-owned c =
    let i = c.self.inside in
    let v : Contents = record { kernels = i.kernels; spaces = i.spaces; threads = i.threads; rows = i.rows; kernel_count = i.kernel_count; space_count = i.space_count; thread_count = i.thread_count; issued = i.roll.issued; spare = i.roll.spare } in
    rw (← c.self.view_is) (λ owner_of own owned. record {
      kernels = owned.kernels;
      spaces = owned.spaces;
      threads = owned.threads;
      rows = c.declare-in-Mapping.ensures.owned owner_of (rw c.in-Mapping.is at own) owned.rows;
    })
