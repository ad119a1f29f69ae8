use Rattle.std.proofs.Common.{◌≡◌, ◌∙◌, ap, map}
use Rattle.std.specs.Option.{unwrap_or}
use Rattle.std.proofs.lemmas.Result.{err_from_is_err_and}
use Rattle.text_fields.specs.Lines.{fields}
use Rattle.scenario_lines.specs.Forms.{word_value}
use Rattle.scenario_reader.specs.Readings.{declare_all, word_decls}
use Rattle.scenario_reader.specs.Views.{reader_view}
use Rattle.scenario_reader.proofs.Goes.{more_of, stops_at, done, fields_cut, fields_none}
use Rattle.scenario_reader.proofs.reader.Reader.declare_fields.Goals as goal

pub returns-in_err-next : goal.returns-in_err-next
returns-in_err-next c =
    let p = err_from_is_err_and c.from_residual.result c.from_residual.ensures.1 in
    let value : c.unwrap_or.result ≡ word_value c.in-Some.field.now = c.unwrap_or.ensures ∙ ap (λ o. unwrap_or o 0) c.word.ensures in
    rw (p.1, p.2) (stops_at (reader_view c.loop-field.self) (reader_view c.args.self.now) _ _ (word_decls c.args.frame c.args.offset (map word_value (fields c.args.words.now))) _ c.in_err-next.field-0.0 c.loop-field.invariant (fields_cut c.args.frame c.loop-field.next (fields c.loop-field.rest.now) c.in-Some.field.now (fields c.in-Some.more.now) c.unwrap_or.result c.in-Some.ensures.is value) c.in_err-next.ensures)

pub loop-field-preserved : goal.loop-field-preserved
loop-field-preserved c =
    let value : c.unwrap_or.result ≡ word_value c.in-Some.field.now = c.unwrap_or.ensures ∙ ap (λ o. unwrap_or o 0) c.word.ensures in
    ap (λ n. declare_all (reader_view c.declare_word.new.self) (word_decls c.args.frame n (map word_value (fields c.in-Some.more.now)))) c.in_ok-next.ensures.0
    ∙ more_of (reader_view c.loop-field.self) (reader_view c.declare_word.new.self) (reader_view c.args.self.now) _ _ (word_decls c.args.frame c.args.offset (map word_value (fields c.args.words.now))) _ c.loop-field.invariant (fields_cut c.args.frame c.loop-field.next (fields c.loop-field.rest.now) c.in-Some.field.now (fields c.in-Some.more.now) c.unwrap_or.result c.in-Some.ensures.is value) c.in_ok-next.ensures.1

pub returns : goal.returns
returns c = done (reader_view c.loop-field.self) (reader_view c.args.self.now) _ (word_decls c.args.frame c.args.offset (map word_value (fields c.args.words.now))) c.loop-field.invariant (fields_none c.args.frame c.loop-field.next (fields c.loop-field.rest.now) c.in_default.ensures.is)
