use Rattle.std.proofs.Common.{refl}
use Rattle.desc_stores.specs.Contents.{Contents}
use Rattle.desc_stores.proofs.RoomLemmas.{sound-nothing}
use Rattle.desc_stores.proofs.stores.Stores.new.Goals as goal

pub invariant_of-result : goal.invariant_of-result
invariant_of-result c =
    let v : Contents = record { kernels = c.in_ok-new.field-0; spaces = c.in_ok-new-2.field-0; threads = c.in_ok-new-3.field-0; rows = c.in_ok-new-4.field-0; kernel_count = 0; space_count = 0; thread_count = 0; issued = c.new-5.result.issued; spare = c.new-5.result.spare } in
    sound-nothing c.args.caps v (record { kernels = c.in_ok-new.ensures; spaces = c.in_ok-new-2.ensures; threads = c.in_ok-new-3.ensures; rows = c.in_ok-new-4.ensures; kernel_count = refl; space_count = refl; thread_count = refl; issued = c.new-5.ensures })
