use Rattle.std.proofs.Common.{arith}
use Rattle.scenario_reader.specs.Views.{reader_view}
use Rattle.scenario_reader.proofs.Goes.{word_fits}
use Rattle.scenario_reader.proofs.reader.Reader.declare_word.Goals as goal

pub overflow_add-result : goal.overflow_add-result
overflow_add-result c = let h = word_fits (reader_view c.args.self.now) (reader_view c.declare.new.self) c.args.frame c.args.offset c.args.value c.in_ok-declare.ensures in omega (arith, h)
