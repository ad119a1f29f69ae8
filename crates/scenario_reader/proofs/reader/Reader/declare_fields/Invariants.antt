use Rattle.std.proofs.Common.{◌≡◌, length, map}
use Rattle.text_fields.specs.Lines.{fields}
use Rattle.scenario_lines.specs.Forms.{word_value}
use Rattle.scenario_reader.specs.Readings.{declare_all, word_decls}
use Rattle.scenario_reader.specs.Views.{reader_view}
use Rattle.scenario_reader.proofs.reader.Reader.declare_fields.Given as goal

abbrev pub invariant-loop-field : goal.invariant-loop-field
invariant-loop-field l = declare_all (reader_view l.self) (word_decls l.frame l.next (map word_value (fields l.rest))) ≡ declare_all (reader_view l.fn.self) (word_decls l.frame l.offset (map word_value (fields l.words)))

abbrev pub decreases-loop-field : goal.decreases-loop-field
decreases-loop-field l = length l.rest
