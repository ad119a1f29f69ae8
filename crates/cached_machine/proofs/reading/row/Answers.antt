use Rattle.std.proofs.Common.{sym, ◌∙◌}
use Rattle.cached_machine.proofs.reading.row.Goals as goal

pub returns : goal.returns
returns c = λ machine memory. c.row_named.ensures ∙ sym ((c.known.ensures.found machine memory).rows c.args.space c.args.vpn)
