use Rattle.store_residents.proofs.ContentLemmas.{resident_content, resident_item, shelved_iff}
use Rattle.store_residents.proofs.laws.a_resident_has_a_content.Goals as goal

pub returns-clause-there : goal.returns-clause-there
returns-clause-there c = λ contents r one there. resident_content contents one r there

pub returns-clause-same : goal.returns-clause-same
returns-clause-same c = λ contents r one there. resident_item contents one r there

pub returns-clause-shelved : goal.returns-clause-shelved
returns-clause-shelved c = λ contents name one. shelved_iff contents one name
