-- Reading the word of a valid instruction gives it back.
use Rattle.std.proofs.Common.{ap, ◌∙◌}
use Rattle.rv32_isa.specs.Table.{instruction_of}
use Rattle.rv32_isa.proofs.TableReads.{instruction_of-word_of}
use Rattle.rv32_isa.proofs.writing.encode.Goals as goal

pub returns-clause-decodes : goal.returns-clause-decodes
returns-clause-decodes c = ap instruction_of c.by_form.ensures ∙ instruction_of-word_of c.args.instr c.requires
