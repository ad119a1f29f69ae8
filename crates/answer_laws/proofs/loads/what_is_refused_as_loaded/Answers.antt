use Rattle.std.proofs.Common.{Some, sym}
use Rattle.board_threads.specs.board_checks.proofs.LoadLemmas.{absent_tested}
use Rattle.answer_laws.proofs.LoadAnswers.{absent, told}
use Rattle.answer_laws.proofs.loads.what_is_refused_as_loaded.Goals as goal

pub returns : goal.returns
returns c = record {
  told = told;
  loaded = λ contents one ident n r. sym (absent_tested contents one n (Some ident) r tt);
  absent = absent;
}
