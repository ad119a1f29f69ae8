use Rattle.std.proofs.Common.{sym, ap, ◌∙◌}
use Rattle.std.specs.Option.{option_and_then, option_map}
use Rattle.rv32_isa.specs.Table.{instruction_of}
use Rattle.rv32_exec.specs.Actions.{action_of}
use Rattle.flat_state.specs.Pages.{pages_of}
use Rattle.flat_state.specs.Signals.{next_action}
use Rattle.flat_rules.specs.Looking.{does_any_miss}
use Rattle.flat_rules.proofs.Missing.{faults_decoded, faults_unfetched}
use Rattle.flat_rules.proofs.look.faults.Goals as goal

pub returns-in-Some : goal.returns-in-Some
unfolding next_action
returns-in-Some g c =
    let t = (g.T.Records.shown c.args.thread.now) in
    let ps = pages_of (g.T.Records.state c.args.tables.now) t.space in
    let is = sym c.requires.word ∙ c.in-Some.is in
    c.misses_any.ensures
    ∙ ap (does_any_miss t.context ps) (c.requires.action ∙ ap (option_and_then (λ word. option_map (λ instr. action_of instr t.context) (instruction_of word))) is)
    ∙ sym (faults_decoded t.context ps _ is)

pub returns-in-None : goal.returns-in-None
returns-in-None g c =
    let t = (g.T.Records.shown c.args.thread.now) in
    sym (faults_unfetched t.context (pages_of (g.T.Records.state c.args.tables.now) t.space) (sym c.requires.word ∙ c.in-None.is))
