use Rattle.std.proofs.Common.{Option, sym, ap, ◌∙◌}
use Rattle.flat_state.specs.declared.records.FlatThread.{FlatThread}
use Rattle.flat_state.specs.Signals.{sent_to}
use Rattle.cached_machine.specs.Cached.{state_of}
use Rattle.cached_machine.proofs.StepLaws.{found_at}
use Rattle.cached_machine.proofs.steps.CachedMachineSteps.give.Goals as goal

pub returns-clause-state : goal.returns-clause-state
returns-clause-state c =
    let s = state_of c.args.self.now in
    let no = c.args.no in
    let found = found_at s.threads no.0 c.requires.there in
    c.change.ensures.state found.0 found.1 ∙ sym (ap (λ (o : Option FlatThread). record s { threads = sent_to s.threads no c.args.va o }) found.1)
