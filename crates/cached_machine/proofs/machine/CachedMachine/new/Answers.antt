use Rattle.std.proofs.Common.{◌≡◌, rules, [], ap}
use Rattle.flat_state.specs.Declaration.{locks_granted}
use Rattle.thread_sets.specs.Sets.{Sets}
use Rattle.cached_machine.proofs.NewLaws.{new_sound, none_out, shows_nothing}
use Rattle.cached_machine.proofs.machine.CachedMachine.new.Goals as goal

pub invariant_of-result : goal.invariant_of-result
invariant_of-result c =
    let machine = c.args.machine in
    let tables = c.in_ok-tables in
    let none : c.default.result ≡ locks_granted [] = search rules in
    let sound = new_sound machine c.in_ok-memory.memory tables.tables c.new-3.result c.in_ok-memory.ensures.zeros tables.ensures.nothing c.default.result c.requires tables.ensures.caps (ap (λ (s : Sets). s.completable) c.new-3.ensures) (ap (λ (s : Sets). s.ready) c.new-3.ensures) none in
    (sound, none_out machine c.in_ok-memory.memory tables.tables c.new-3.result c.in_ok-memory.ensures.zeros tables.ensures.nothing)

pub returns-clause-state : goal.returns-clause-state
returns-clause-state c =
    let tables = c.in_ok-tables in
    shows_nothing c.args.machine c.in_ok-memory.memory tables.tables c.new-3.result c.in_ok-memory.ensures.zeros tables.ensures.nothing
