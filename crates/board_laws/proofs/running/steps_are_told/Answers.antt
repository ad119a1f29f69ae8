use Rattle.board_laws.proofs.Runs.{ended_told, ran_told}
use Rattle.board_laws.proofs.running.steps_are_told.Goals as goal

pub returns : goal.returns
returns c = record {
  ran = λ m before after old new j thread steps cpu as_told few some there each shows keeps. ran_told m before after old new j thread cpu as_told few there keeps steps some each shows;
  ended = λ m before after old new j thread cpu as_told few there step shows keeps. ended_told m before after old new j thread cpu as_told few there keeps step shows;
}
