use Rattle.board_laws.specs.shown_state.proofs.LookupLemmas.{all_found, all_listed}
use Rattle.cached_machine.proofs.reading.known.Goals as goal

pub returns-clause-found : goal.returns-clause-found
returns-clause-found c = λ machine memory. all_found machine memory c.args.tables.now.contents c.are_sound.ensures.sound.1.whole.one

pub returns-clause-listed : goal.returns-clause-listed
returns-clause-listed c = λ machine memory. all_listed machine memory c.args.tables.now.contents c.are_sound.ensures.sound.1.whole.one
