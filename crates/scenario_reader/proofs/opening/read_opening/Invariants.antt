use Rattle.std.proofs.Common.{◌≡◌, ◌+◌, ◌≤◌, length}
use Rattle.text_fields.specs.Lines.{lines}
use Rattle.scenario_reader.specs.Views.{reader_view}
use Rattle.scenario_reader.specs.Openings.{reads_opening, opening}
use Rattle.scenario_reader.proofs.opening.read_opening.Given as goal

abbrev pub invariant-loop-reader : goal.invariant-loop-reader
invariant-loop-reader l = record {
  meant : reads_opening l.number (reader_view l.reader) (lines l.rest) ≡ opening l.text;
  few : l.number + length l.rest ≤ length l.text + 1;
}

abbrev pub decreases-loop-reader : goal.decreases-loop-reader
decreases-loop-reader l = length l.rest
