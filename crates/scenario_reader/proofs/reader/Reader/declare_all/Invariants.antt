use Rattle.std.proofs.Common.{◌≡◌, drop}
use Rattle.scenario_reader.specs.Readings.{declare_all}
use Rattle.scenario_reader.specs.Views.{reader_view}
use Rattle.scenario_reader.proofs.reader.Reader.declare_all.Given as goal

abbrev pub invariant-loop-decl : goal.invariant-loop-decl
invariant-loop-decl l = declare_all (reader_view l.self) (drop l.decl-index l.decls) ≡ declare_all (reader_view l.fn.self) l.decls
