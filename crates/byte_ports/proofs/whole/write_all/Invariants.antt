use Rattle.std.proofs.Common.{length, take, ◌-◌, ◌≡◌, ◌≤◌}
use Rattle.std.specs.Io.KnownBytes.{Appends}
use Rattle.byte_ports.proofs.whole.write_all.Given as goal

-- what was written so far is held, and no write failed
abbrev pub invariant-loop-written : goal.invariant-loop-written
invariant-loop-written g l =
    let sink = g.W.Sink in
    record {
      within : l.written ≤ length l.text;
      held : Appends (sink.bytes_held l.fn.sink) (sink.bytes_held l.sink) (take l.written l.text);
      faultless : sink.faults l.sink ≡ sink.faults l.fn.sink;
    }

abbrev pub decreases-loop-written : goal.decreases-loop-written
decreases-loop-written g l = length l.text - l.written
