use Rattle.std.proofs.Common.{◌<◌, length, refl, arith}
use Rattle.rv32_exec.proofs.Decoding.{written_has_word}
use Rattle.rv32_exec.proofs.decoded.DecodedWords.meet.Goals as goal

pub returns-in-Some-clause-known : goal.returns-in-Some-clause-known
returns-in-Some-clause-known c =
    let lines = c.args.self.now.lines.items in
    let below : c.args.place < length lines = omega (arith, c.requires, c.args.self.now.all) in
    written_has_word lines c.args.place c.args.word _ below refl
