use Rattle.std.proofs.Common.{ap, sym, ◌∙◌}
use Rattle.std.specs.Option.{option_map}
use Rattle.flat_state.specs.declared.records.FlatKernel.{FlatKernel}
use Rattle.cached_machine.proofs.reading.rights.Goals as goal

pub returns-in_err-kernel : goal.returns-in_err-kernel
returns-in_err-kernel c = λ machine memory.
    c.from_residual.ensures ∙ ap (option_map (λ (k : FlatKernel). k.rights)) (c.in_err-kernel.ensures ∙ sym ((c.known.ensures.found machine memory).kernels c.args.kernel.0))

pub returns : goal.returns
returns c = λ machine memory.
    ap (option_map (λ (k : FlatKernel). k.rights)) (c.in_ok-kernel.ensures ∙ sym ((c.known.ensures.found machine memory).kernels c.args.kernel.0))
