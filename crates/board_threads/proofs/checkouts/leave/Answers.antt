use Rattle.std.proofs.Common.{subst}
use Rattle.cache_ident.specs.declared.names.ThreadNo.{ThreadNo}
use Rattle.board_threads.specs.Posts.{HasComeBack}
use Rattle.board_threads.proofs.checkouts.leave.Goals as goal

pub returns-in-Some-clause-back : goal.returns-in-Some-clause-back
returns-in-Some-clause-back c = λ whom out.
    subst (λ (n : ThreadNo). HasComeBack n c.args.core.now c.check_in.new.self) (c.in-Some.ensures.alone whom out) c.check_in.ensures.marks
