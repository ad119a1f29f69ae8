use Rattle.std.proofs.Common.{◌≡◌, ◌≤◌, take, count_by}
use Rattle.text_fields.specs.Lines.{is_feed}
use Rattle.v_drive.proofs.machine.feeds.Given as goal

abbrev pub invariant-loop-byte : goal.invariant-loop-byte
invariant-loop-byte l = record {
  is : l.feeds ≡ count_by is_feed (take l.byte-index l.text);
  few : l.feeds ≤ l.byte-index;
}
