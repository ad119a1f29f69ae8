-- Each promise follows from what the table reads.
use Rattle.rv32_isa.proofs.TableSound.{valid_where_read, same_word_where_read, no_word_where_none}
use Rattle.rv32_isa.proofs.reading.decode.Goals as goal

pub returns-clause-valid : goal.returns-clause-valid
returns-clause-valid c = valid_where_read c.args.word c.by_opcode.result c.ranges.word.fits c.by_opcode.ensures

pub returns-clause-same_word : goal.returns-clause-same_word
returns-clause-same_word c = same_word_where_read c.args.word c.by_opcode.result c.ranges.word.fits c.by_opcode.ensures

pub returns-clause-none : goal.returns-clause-none
returns-clause-none c = no_word_where_none c.args.word c.by_opcode.result c.by_opcode.ensures
