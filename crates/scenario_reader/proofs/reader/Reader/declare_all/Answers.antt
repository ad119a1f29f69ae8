use Rattle.std.proofs.lemmas.List.{drop_all}
use Rattle.std.proofs.lemmas.Result.{err_from_is_err_and}
use Rattle.scenario_reader.specs.Views.{reader_view}
use Rattle.scenario_reader.proofs.Goes.{more_of, stops_at, done, cut}
use Rattle.scenario_reader.proofs.reader.Reader.declare_all.Goals as goal

pub returns-in_err-declare : goal.returns-in_err-declare
returns-in_err-declare c =
    let p = err_from_is_err_and c.from_residual.result c.from_residual.ensures.1 in
    rw (p.1, p.2) (stops_at (reader_view c.loop-decl.self) (reader_view c.args.self.now) _ _ c.args.decls.now _ c.in_err-declare.field-0.0 c.loop-decl.invariant (cut c.args.decls.now c.loop-decl.decl-index _ c.loop-decl-test.true) c.in_err-declare.ensures)

pub loop-decl-preserved : goal.loop-decl-preserved
loop-decl-preserved c = more_of (reader_view c.loop-decl.self) (reader_view c.declare.new.self) (reader_view c.args.self.now) _ _ c.args.decls.now _ c.loop-decl.invariant (cut c.args.decls.now c.loop-decl.decl-index _ c.loop-decl-test.true) c.in_ok-declare.ensures

pub returns : goal.returns
returns c = done (reader_view c.loop-decl.self) (reader_view c.args.self.now) _ c.args.decls.now c.loop-decl.invariant (drop_all c.loop-decl.decl-index c.args.decls.now c.loop-decl-test.false)
