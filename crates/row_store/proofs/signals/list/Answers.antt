use Rattle.std.proofs.Common.{sym, ◌∙◌}
use Rattle.row_store.proofs.SignalLemmas.{entry_absent, listed}
use Rattle.row_store.proofs.signals.list.Goals as goal

pub insert-requires-clause-absent : goal.insert-requires-clause-absent
insert-requires-clause-absent c = entry_absent c.args.signals.now.entries c.args.row.now.frame c.args.stamped c.requires.absent

pub returns-then-is_some-clause-listed : goal.returns-then-is_some-clause-listed
returns-then-is_some-clause-listed c = listed c.args.row.now c.args.stamped c.args.signals.now.entries c.insert.new.self.entries (sym c.is_some.ensures ∙ c.if-is_some.true) c.insert.ensures.entries
