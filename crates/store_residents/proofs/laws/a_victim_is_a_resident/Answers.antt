use Rattle.store_residents.proofs.VictimLemmas.{locked_or_kept, victim_resident}
use Rattle.store_residents.proofs.laws.a_victim_is_a_resident.Goals as goal

pub returns-clause-victim : goal.returns-clause-victim
returns-clause-victim c = λ contents kind keep ident one is. victim_resident contents keep one.sound kind ident is

pub returns-clause-none : goal.returns-clause-none
returns-clause-none c = λ contents kind keep r one none there of_kind. locked_or_kept contents kind keep r none there of_kind
