use Rattle.std.proofs.Common.{length, ◌-◌, ◌≡◌, ◌≤◌, vec_len}
use Rattle.std.specs.Io.KnownBytes.{Consumes}
use Rattle.byte_ports.specs.declared.whole.TheConstants.{PIECE}
use Rattle.byte_ports.proofs.whole.read_to_end.Given as goal

-- what was read so far is what the source gave, and no read failed
abbrev pub invariant-loop-count : goal.invariant-loop-count
invariant-loop-count g l =
    let source = g.S.Source in
    record {
      within : vec_len l.bytes ≤ l.limit;
      read : Consumes (source.bytes_left l.fn.source) (source.bytes_left l.source) l.bytes.items;
      faultless : source.faults l.source ≡ source.faults l.fn.source;
      room : length l.piece ≡ PIECE;
    }

abbrev pub decreases-loop-count : goal.decreases-loop-count
decreases-loop-count g l = l.limit - vec_len l.bytes
