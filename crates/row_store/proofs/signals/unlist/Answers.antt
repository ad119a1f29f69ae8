use Rattle.std.proofs.Common.{sym, ◌∙◌}
use Rattle.row_store.proofs.SignalLemmas.{unlisted}
use Rattle.row_store.proofs.signals.unlist.Goals as goal

pub returns-then-is_some-clause-unlisted : goal.returns-then-is_some-clause-unlisted
returns-then-is_some-clause-unlisted c = unlisted c.args.row.now c.args.stamped c.args.signals.now.entries c.remove.new.self.entries (sym c.is_some.ensures ∙ c.if-is_some.true) c.requires.proper.rising c.remove.ensures.entries
