-- The line remembers the word already.
use Rattle.std.proofs.Common.{◌<◌, length, Some, ap, sym, ◌∙◌, arith}
use Rattle.std.proofs.lemmas.Option.{slice_get-get_or}
use Rattle.rv32_exec.specs.declared.lines.Line.{Line}
use Rattle.rv32_exec.proofs.decoded.DecodedWords.knows.Goals as goal

pub returns-then-index-word-clause-known : goal.returns-then-index-word-clause-known
returns-then-index-word-clause-known c =
    let lines = c.args.self.now.lines.items in
    let line = c.index.result.now in
    let below : c.args.place < length lines = omega (arith, c.requires, c.args.self.now.all) in
    record {
      line = line;
      there = slice_get-get_or lines c.args.place line below ∙ ap (λ (l : Line). Some l) (sym c.index.ensures);
      same = c.if-index-word.true;
    }
