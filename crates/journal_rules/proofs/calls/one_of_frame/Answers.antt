use Rattle.journal_rules.proofs.Among.{frame_asked}
use Rattle.journal_rules.proofs.calls.one_of_frame.Goals as goal

pub returns : goal.returns
returns c = frame_asked c.args.relying.now c.args.frame c.new-names.result.items c.add_one.new.names.items c.new-names.ensures.items c.in_ok-add_one.ensures
