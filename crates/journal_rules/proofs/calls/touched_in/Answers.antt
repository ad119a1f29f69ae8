use Rattle.journal_rules.proofs.Completing.{fits, fits_not, fits_none, covers_found}
use Rattle.journal_rules.proofs.calls.touched_in.Goals as goal

pub returns-then-not-is_completable-clause-none : goal.returns-then-not-is_completable-clause-none
returns-then-not-is_completable-clause-none c = fits_not c.args.flat.now c.args.thread c.in-Some.caller.now c.in-Some.ensures c.if-not-is_completable.ensures

pub returns-else-not-is_completable-clause-some : goal.returns-else-not-is_completable-clause-some
returns-else-not-is_completable-clause-some c = (
  fits c.args.flat.now c.args.thread c.in-Some.caller.now c.in-Some.ensures c.if-not-is_completable.ensures,
  covers_found c.args.flat.now c.args.thread c.in-Some.caller.now c.touched_by.result c.in-Some.ensures c.touched_by.ensures,
)

pub returns-in-None-clause-none : goal.returns-in-None-clause-none
returns-in-None-clause-none c = fits_none c.args.flat.now c.args.thread c.in-None.ensures
