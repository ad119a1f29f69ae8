use Rattle.board_laws.proofs.Quanta.{quantum_told}
use Rattle.board_laws.proofs.running.a_quantum_is_told.Goals as goal

pub returns : goal.returns
returns c = λ m before after old new j thread found ahead cpu as_told few some there local is could loaded shows keeps.
    quantum_told m before after old new j thread found ahead cpu as_told few some there local is could loaded shows keeps
