use Rattle.std.proofs.Common.{◌+◌, ◌∙◌, ap, drop}
use Rattle.std.proofs.lemmas.Result.{err_from_is_err_and}
use Rattle.scenario_reader.specs.Readings.{declare_all, word_decls}
use Rattle.scenario_reader.specs.Views.{reader_view}
use Rattle.scenario_reader.proofs.Goes.{more_of, stops_at, done, words_cut, words_none}
use Rattle.scenario_reader.proofs.reader.Reader.declare_words.Goals as goal

pub returns-in_err-next : goal.returns-in_err-next
returns-in_err-next c =
    let p = err_from_is_err_and c.from_residual.result c.from_residual.ensures.1 in
    rw (p.1, p.2) (stops_at (reader_view c.loop-word.self) (reader_view c.args.self.now) _ _ (word_decls c.args.frame c.args.offset c.args.words.now) _ c.in_err-next.field-0.0 c.loop-word.invariant (words_cut c.args.frame c.loop-word.next c.args.words.now c.loop-word.word-index _ c.loop-word-test.true) c.in_err-next.ensures)

pub loop-word-preserved : goal.loop-word-preserved
loop-word-preserved c =
    ap (λ n. declare_all (reader_view c.declare_word.new.self) (word_decls c.args.frame n (drop (c.loop-word.word-index + 1) c.args.words.now))) c.in_ok-next.ensures.0
    ∙ more_of (reader_view c.loop-word.self) (reader_view c.declare_word.new.self) (reader_view c.args.self.now) _ _ (word_decls c.args.frame c.args.offset c.args.words.now) _ c.loop-word.invariant (words_cut c.args.frame c.loop-word.next c.args.words.now c.loop-word.word-index _ c.loop-word-test.true) c.in_ok-next.ensures.1

pub returns : goal.returns
returns c = done (reader_view c.loop-word.self) (reader_view c.args.self.now) _ (word_decls c.args.frame c.args.offset c.args.words.now) c.loop-word.invariant (words_none c.args.frame c.loop-word.next c.args.words.now c.loop-word.word-index c.loop-word-test.false)
