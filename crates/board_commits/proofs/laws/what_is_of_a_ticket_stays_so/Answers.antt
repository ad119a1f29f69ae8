use Rattle.board_commits.proofs.CopyLaws.{all_of, kept_as, of_begun}
use Rattle.board_commits.proofs.KeptLaws.{kept_begun, kept_happened, kept_stays, kept_unbegun}
use Rattle.board_commits.proofs.TicketLaws.{views_stay}
use Rattle.board_commits.proofs.laws.what_is_of_a_ticket_stays_so.Goals as goal

pub returns-clause-views : goal.returns-clause-views
returns-clause-views c = λ j es thread a are. views_stay j es thread a are

pub returns-clause-kept : goal.returns-clause-kept
returns-clause-kept c = λ j es a kept. kept_stays j es a kept

pub returns-clause-begun : goal.returns-clause-begun
returns-clause-begun c = λ j context a kept. kept_begun j context a kept

pub returns-clause-anew : goal.returns-clause-anew
returns-clause-anew c = λ j thread context a kept. of_begun j thread context a kept

pub returns-clause-ran : goal.returns-clause-ran
returns-clause-ran c = λ j thread a b same are. all_of j thread a b same are

pub returns-clause-ran_kept : goal.returns-clause-ran_kept
returns-clause-ran_kept c = λ j a b same kept. kept_as j a b same kept

pub returns-clause-happened : goal.returns-clause-happened
returns-clause-happened c = λ ticket a old new sound done some kept. kept_happened ticket a old new sound done some kept

pub returns-clause-new : goal.returns-clause-new
returns-clause-new c = λ j most. kept_unbegun j most
