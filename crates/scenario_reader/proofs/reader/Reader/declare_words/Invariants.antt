use Rattle.std.proofs.Common.{◌≡◌, drop}
use Rattle.scenario_reader.specs.Readings.{declare_all, word_decls}
use Rattle.scenario_reader.specs.Views.{reader_view}
use Rattle.scenario_reader.proofs.reader.Reader.declare_words.Given as goal

abbrev pub invariant-loop-word : goal.invariant-loop-word
invariant-loop-word l = declare_all (reader_view l.self) (word_decls l.frame l.next (drop l.word-index l.words)) ≡ declare_all (reader_view l.fn.self) (word_decls l.frame l.offset l.words)
