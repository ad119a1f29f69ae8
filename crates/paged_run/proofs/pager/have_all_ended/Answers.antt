use Rattle.std.proofs.Common.{sym, ◌∙◌, arith}
use Rattle.paged_run.proofs.Settling.{one_goes_on, one_more_ended}
use Rattle.paged_run.proofs.pager.have_all_ended.Goals as goal

pub returns-then-not-has_ended : goal.returns-then-not-has_ended
returns-then-not-has_ended c = sym (one_goes_on c.args.tables.now.threads c.loop-number.number (omega arith) (sym c.has_ended.ensures ∙ c.if-not-has_ended.true))

pub loop-number-preserved : goal.loop-number-preserved
loop-number-preserved c = one_more_ended c.args.tables.now.threads c.loop-number.number (omega arith) c.loop-number.invariant (sym c.has_ended.ensures ∙ c.if-not-has_ended.false)
