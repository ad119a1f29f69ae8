use Rattle.store_residents.proofs.ResidentLemmas.{absent_iff, live_iff, lock_iff, named_iff, resident_iff, resident_kind}
use Rattle.store_residents.proofs.laws.residents_are_what_is_loaded.Goals as goal

pub returns-clause-loaded : goal.returns-clause-loaded
returns-clause-loaded c = λ contents r one. resident_iff contents one.sound r

pub returns-clause-named : goal.returns-clause-named
returns-clause-named c = λ contents name ident one. named_iff contents one.sound name ident

pub returns-clause-absent : goal.returns-clause-absent
returns-clause-absent c = λ contents name one. absent_iff contents one.sound name

pub returns-clause-live : goal.returns-clause-live
returns-clause-live c = λ contents ident one. live_iff contents one.sound ident

pub returns-clause-lock : goal.returns-clause-lock
returns-clause-lock c = λ contents ident locked one. lock_iff contents one.sound ident locked

pub returns-clause-kind : goal.returns-clause-kind
returns-clause-kind c = λ contents r one. resident_kind contents one.sound r
