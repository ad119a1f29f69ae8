use Rattle.std.proofs.Common.{refl}
use Rattle.desc_stores.specs.Contents.{Contents}
use Rattle.desc_stores.proofs.RoomLemmas.{sound-roomy}
use Rattle.desc_stores.proofs.stores.Stores.make_room.Goals as goal

pub invariant_of-self : goal.invariant_of-self
invariant_of-self c =
    let i = c.self.inside in
    let v : Contents = record { kernels = i.kernels; spaces = i.spaces; threads = i.threads; rows = i.rows; kernel_count = i.kernel_count; space_count = i.space_count; thread_count = i.thread_count; issued = i.roll.issued; spare = i.roll.spare } in
    sound-roomy v c.self.invariant c.make_room_of.new.kept i.spaces i.threads i.rows c.make_room_of.ensures.cells c.make_room_of.ensures.rows refl refl refl refl refl

pub invariant_of-self-in_err-make_room_of-2 : goal.invariant_of-self-in_err-make_room_of-2
invariant_of-self-in_err-make_room_of-2 c =
    let i = c.self.inside in
    let v : Contents = record { kernels = i.kernels; spaces = i.spaces; threads = i.threads; rows = i.rows; kernel_count = i.kernel_count; space_count = i.space_count; thread_count = i.thread_count; issued = i.roll.issued; spare = i.roll.spare } in
    sound-roomy v c.self.invariant c.make_room_of.new.kept c.make_room_of-2.new.kept i.threads i.rows c.make_room_of.ensures.cells c.make_room_of.ensures.rows c.make_room_of-2.ensures.cells c.make_room_of-2.ensures.rows refl refl refl

pub invariant_of-self-in_err-make_room_of-3 : goal.invariant_of-self-in_err-make_room_of-3
invariant_of-self-in_err-make_room_of-3 c =
    let i = c.self.inside in
    let v : Contents = record { kernels = i.kernels; spaces = i.spaces; threads = i.threads; rows = i.rows; kernel_count = i.kernel_count; space_count = i.space_count; thread_count = i.thread_count; issued = i.roll.issued; spare = i.roll.spare } in
    sound-roomy v c.self.invariant c.make_room_of.new.kept c.make_room_of-2.new.kept c.make_room_of-3.new.kept i.rows c.make_room_of.ensures.cells c.make_room_of.ensures.rows c.make_room_of-2.ensures.cells c.make_room_of-2.ensures.rows c.make_room_of-3.ensures.cells c.make_room_of-3.ensures.rows refl

pub invariant_of-self-2 : goal.invariant_of-self-2
invariant_of-self-2 c =
    let i = c.self.inside in
    let v : Contents = record { kernels = i.kernels; spaces = i.spaces; threads = i.threads; rows = i.rows; kernel_count = i.kernel_count; space_count = i.space_count; thread_count = i.thread_count; issued = i.roll.issued; spare = i.roll.spare } in
    sound-roomy v c.self.invariant c.make_room_of.new.kept c.make_room_of-2.new.kept c.make_room_of-3.new.kept c.make_row_room.new.rows c.make_room_of.ensures.cells c.make_room_of.ensures.rows c.make_room_of-2.ensures.cells c.make_room_of-2.ensures.rows c.make_room_of-3.ensures.cells c.make_room_of-3.ensures.rows c.make_row_room.ensures.cells
