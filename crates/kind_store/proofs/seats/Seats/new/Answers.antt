use Rattle.std.proofs.Common.{refl}
use Rattle.kind_store.proofs.SeatEdits.{cells-none, sound-none}
use Rattle.kind_store.proofs.seats.Seats.new.Goals as goal

pub invariant_of-result : goal.invariant_of-result
invariant_of-result g c = sound-none g.T.Descriptor.called g.T.Descriptor.KIND c.args.cap c.in_ok-slots.slots c.in_ok-by_serial.by_serial _ _ c.in_ok-slots.ensures c.in_ok-by_serial.ensures c.new-3.ensures.empty c.new-4.ensures

pub returns : goal.returns
returns g c = rw (c.in_ok-slots.ensures, cells-none c.new-3.result.slots c.args.cap, c.new-4.ensures) refl
