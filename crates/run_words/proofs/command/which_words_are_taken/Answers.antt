use Rattle.run_words.proofs.Runs.{examples_are_taken, examples_are_refused}
use Rattle.run_words.proofs.Values.{modes_are_named, numbers_have_ranges}
use Rattle.run_words.proofs.command.which_words_are_taken.Goals as goal

pub returns-clause-modes : goal.returns-clause-modes
returns-clause-modes c = modes_are_named

pub returns-clause-ranges : goal.returns-clause-ranges
returns-clause-ranges c = numbers_have_ranges

pub returns-clause-taken : goal.returns-clause-taken
returns-clause-taken c = examples_are_taken

pub returns-clause-refused : goal.returns-clause-refused
returns-clause-refused c = examples_are_refused
