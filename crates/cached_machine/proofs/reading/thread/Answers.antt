use Rattle.std.proofs.Common.{sym, ◌∙◌}
use Rattle.cached_machine.proofs.reading.thread.Goals as goal

pub returns : goal.returns
returns c = λ machine memory. c.thread_named.ensures ∙ sym ((c.known.ensures.found machine memory).threads c.args.no.0)
