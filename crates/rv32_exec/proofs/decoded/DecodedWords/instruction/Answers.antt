-- The instruction of a word is valid.
use Rattle.std.proofs.Common.{Some, ap, sym, ◌∙◌}
use Rattle.std.proofs.lemmas.Option.{get_or_from_slice_get}
use Rattle.rv32_isa.specs.Table.{instruction_of}
use Rattle.rv32_isa.proofs.TableSound.{valid_where_read}
use Rattle.rv32_exec.specs.declared.lines.Line.{Line}
use Rattle.rv32_exec.specs.Decoded.{HasWord}
use Rattle.rv32_exec.proofs.decoded.DecodedWords.instruction.Goals as goal

pub returns-then-knows-clause-valid : goal.returns-then-knows-clause-valid
returns-then-knows-clause-valid c =
    let line = c.index.result.now in
    let known : HasWord c.knows.new.self.lines.items c.place-place.result c.args.word = rw c.if-knows.true at c.knows.ensures.known in
    let same = c.index.ensures ∙ get_or_from_slice_get c.knows.new.self.lines.items c.place-place.result known.line line known.there in
    valid_where_read c.args.word (Some line.instr) c.ranges.word.fits (sym line.decoded ∙ ap instruction_of (ap (λ (l : Line). l.word) same ∙ known.same))
