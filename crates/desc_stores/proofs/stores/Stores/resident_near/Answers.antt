use Rattle.desc_stores.specs.Contents.{Contents}
use Rattle.desc_stores.proofs.RoomLemmas.{kernels_found, spaces_found, threads_found, rows_found}
use Rattle.desc_stores.proofs.stores.Stores.resident_near.Goals as goal

pub returns-in-Kernel-clause-found : goal.returns-in-Kernel-clause-found
returns-in-Kernel-clause-found c =
    let i = c.self.inside in
    let v : Contents = record { kernels = i.kernels; spaces = i.spaces; threads = i.threads; rows = i.rows; kernel_count = i.kernel_count; space_count = i.space_count; thread_count = i.thread_count; issued = i.roll.issued; spare = i.roll.spare } in
    rw (← c.self.view_is) (kernels_found v c.self.invariant c.args.name c.resident_near.result c.resident_near.ensures.found)

pub returns-in-Space-clause-found : goal.returns-in-Space-clause-found
returns-in-Space-clause-found c =
    let i = c.self.inside in
    let v : Contents = record { kernels = i.kernels; spaces = i.spaces; threads = i.threads; rows = i.rows; kernel_count = i.kernel_count; space_count = i.space_count; thread_count = i.thread_count; issued = i.roll.issued; spare = i.roll.spare } in
    rw (← c.self.view_is) (spaces_found v c.self.invariant c.args.name c.resident_near-in-Space.result c.resident_near-in-Space.ensures.found)

pub returns-in-Thread-clause-found : goal.returns-in-Thread-clause-found
returns-in-Thread-clause-found c =
    let i = c.self.inside in
    let v : Contents = record { kernels = i.kernels; spaces = i.spaces; threads = i.threads; rows = i.rows; kernel_count = i.kernel_count; space_count = i.space_count; thread_count = i.thread_count; issued = i.roll.issued; spare = i.roll.spare } in
    rw (← c.self.view_is) (threads_found v c.self.invariant c.args.name c.resident_near-in-Thread.result c.resident_near-in-Thread.ensures.found)

pub returns-in-Mapping-clause-found : goal.returns-in-Mapping-clause-found
returns-in-Mapping-clause-found c =
    let i = c.self.inside in
    let v : Contents = record { kernels = i.kernels; spaces = i.spaces; threads = i.threads; rows = i.rows; kernel_count = i.kernel_count; space_count = i.space_count; thread_count = i.thread_count; issued = i.roll.issued; spare = i.roll.spare } in
    rw (← c.self.view_is) (rows_found v c.self.invariant c.args.name c.resident_near-in-Mapping.result c.resident_near-in-Mapping.ensures.found)
