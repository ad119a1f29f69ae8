use Rattle.std.proofs.Common.{sym, ◌∙◌}
use Rattle.cached_machine.proofs.reading.kernel_of.Goals as goal

pub returns-in_err-space : goal.returns-in_err-space
returns-in_err-space c = λ machine memory. c.from_residual.ensures ∙ c.in_err-space.ensures ∙ sym ((c.known.ensures.found machine memory).spaces c.args.space.0)

pub returns : goal.returns
returns c = λ machine memory. c.in_ok-space.ensures ∙ sym ((c.known.ensures.found machine memory).spaces c.args.space.0)
