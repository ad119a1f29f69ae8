use Rattle.desc_stores.specs.Contents.{Contents}
use Rattle.desc_stores.proofs.RoomLemmas.{kernels_found, rows_found, spaces_found, threads_absent, threads_found}
use Rattle.desc_stores.proofs.stores.Stores.found.Goals as goal

pub returns-in_ok-found-in-Kernel-clause-loaded : goal.returns-in_ok-found-in-Kernel-clause-loaded
returns-in_ok-found-in-Kernel-clause-loaded c =
    let i = c.self.inside in
    let v : Contents = record { kernels = i.kernels; spaces = i.spaces; threads = i.threads; rows = i.rows; kernel_count = i.kernel_count; space_count = i.space_count; thread_count = i.thread_count; issued = i.roll.issued; spare = i.roll.spare } in
    let o = c.in_ok-found-in-Kernel in
    rw (← c.self.view_is) (kernels_found v c.self.invariant c.args.name o.found.ident o.ensures.loaded)

pub returns-in_ok-found-in-Space-clause-loaded : goal.returns-in_ok-found-in-Space-clause-loaded
returns-in_ok-found-in-Space-clause-loaded c =
    let i = c.self.inside in
    let v : Contents = record { kernels = i.kernels; spaces = i.spaces; threads = i.threads; rows = i.rows; kernel_count = i.kernel_count; space_count = i.space_count; thread_count = i.thread_count; issued = i.roll.issued; spare = i.roll.spare } in
    let o = c.in_ok-found-in-Space in
    rw (← c.self.view_is) (spaces_found v c.self.invariant c.args.name o.found.ident o.ensures.loaded)

pub returns-in_ok-found-in-Thread-clause-loaded : goal.returns-in_ok-found-in-Thread-clause-loaded
returns-in_ok-found-in-Thread-clause-loaded c =
    let i = c.self.inside in
    let v : Contents = record { kernels = i.kernels; spaces = i.spaces; threads = i.threads; rows = i.rows; kernel_count = i.kernel_count; space_count = i.space_count; thread_count = i.thread_count; issued = i.roll.issued; spare = i.roll.spare } in
    let o = c.in_ok-found-in-Thread in
    rw (← c.self.view_is) (threads_found v c.self.invariant c.args.name o.found.ident o.ensures.loaded)

pub returns-in_ok-found-in-Mapping-clause-loaded : goal.returns-in_ok-found-in-Mapping-clause-loaded
returns-in_ok-found-in-Mapping-clause-loaded c =
    let i = c.self.inside in
    let v : Contents = record { kernels = i.kernels; spaces = i.spaces; threads = i.threads; rows = i.rows; kernel_count = i.kernel_count; space_count = i.space_count; thread_count = i.thread_count; issued = i.roll.issued; spare = i.roll.spare } in
    let o = c.in_ok-found-in-Mapping in
    rw (← c.self.view_is) (rows_found v c.self.invariant c.args.name o.found.ident o.ensures.loaded)

pub returns-in_ok-found-in-Thread-clause-shelved : goal.returns-in_ok-found-in-Thread-clause-shelved
returns-in_ok-found-in-Thread-clause-shelved c =
    let i = c.self.inside in
    let v : Contents = record { kernels = i.kernels; spaces = i.spaces; threads = i.threads; rows = i.rows; kernel_count = i.kernel_count; space_count = i.space_count; thread_count = i.thread_count; issued = i.roll.issued; spare = i.roll.spare } in
    let o = c.in_ok-found-in-Thread in
    rw (← c.self.view_is, c.in-Thread.is) (threads_absent v c.in-Thread.field-0 o.found.ident (rw c.in-Thread.is at o.ensures.shelved))
