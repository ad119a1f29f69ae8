use Rattle.slot_cache.proofs.SlotLemmas.{NoneBefore}
use Rattle.slot_cache.specs.Seats.{cells_in}
use Rattle.kind_store.proofs.seats.Seats.victim.Given as goal

-- no descriptor of a smaller serial may go
abbrev pub invariant-loop-place : goal.invariant-loop-place
invariant-loop-place g l = NoneBefore (cells_in l.self-inside.records.slots l.self-inside.slots) l.self-inside.by_serial.entries l.keep l.place
