use Rattle.std.proofs.Common.{ℕ, sym, subst}
use Rattle.run_journal.specs.declared.entries.Entry.TheVariants.{Declared, Sealed, Loaded, Locked, Unlocked, Ran, Ended, Completed}
use Rattle.run_journal.specs.Told.{told_after}
use Rattle.run_journal.specs.Legal.{MayComplete, MayEnd, MayLoad, MayLock, MayRun, MayUnlock}
use Rattle.journal_facts.specs.Facts.{AreFactsOf}
use Rattle.journal_facts.proofs.Standing.{if_answered}
use Rattle.journal_facts.proofs.Taking.{IsTaken, by_one, kept_always}
use Rattle.journal_facts.proofs.facts.Facts.take.Goals as goal

pub returns-in-Declared : goal.returns-in-Declared
returns-in-Declared c =
    let new = c.take_declaration.new.self in
    if_answered c.take_declaration.result _ (λ kept. IsTaken c.args.self.now new c.args.next kept c.args.entry.now)
    (λ kept is. subst (IsTaken c.args.self.now new c.args.next kept) (sym c.in-Declared.is)
    (λ k are place. let both = is k are place.0 in kept_always kept (AreFactsOf new (told_after k (Declared c.in-Declared.decl))) both.0 both.1))
    c.take_declaration.ensures

pub returns-in-Sealed : goal.returns-in-Sealed
returns-in-Sealed c =
    let new = c.take_seal.new.self in
    subst (IsTaken c.args.self.now new c.args.next c.take_seal.result) (sym c.in-Sealed.is)
    (λ k are place. let both = c.take_seal.ensures k are in kept_always c.take_seal.result (AreFactsOf new (told_after k Sealed)) both.0 both.1)

pub returns-in-WrittenBack : goal.returns-in-WrittenBack
returns-in-WrittenBack c =
    let new = c.take_departure.new.self in
    if_answered c.take_departure.result _ (λ kept. IsTaken c.args.self.now new c.args.next kept c.args.entry.now)
    (λ kept is. subst (IsTaken c.args.self.now new c.args.next kept) (sym c.in-WrittenBack.is) (λ k are place. is k are place))
    c.take_departure.ensures

pub returns-in-Loaded : goal.returns-in-Loaded
returns-in-Loaded c =
    let new = c.take_load.new.self in
    if_answered c.take_load.result _ (λ kept. IsTaken c.args.self.now new c.args.next kept c.args.entry.now)
    (λ kept is. subst (IsTaken c.args.self.now new c.args.next kept) (sym c.in-Loaded.is)
    (λ k are place. by_one kept (MayLoad k c.in-Loaded.ident c.in-Loaded.name) (λ (cpu : ℕ). AreFactsOf new (told_after k (Loaded c.in-Loaded.ident c.in-Loaded.name cpu))) c.in-Loaded.cpu (is k are place)))
    c.take_load.ensures

pub returns-in-Locked : goal.returns-in-Locked
returns-in-Locked c =
    let new = c.take_lock.new.self in
    if_answered c.take_lock.result _ (λ kept. IsTaken c.args.self.now new c.args.next kept c.args.entry.now)
    (λ kept is. subst (IsTaken c.args.self.now new c.args.next kept) (sym c.in-Locked.is)
    (λ k are place. by_one kept (MayLock k c.in-Locked.ident) (λ (cpu : ℕ). AreFactsOf new (told_after k (Locked c.in-Locked.ident cpu))) c.in-Locked.cpu (is k are place)))
    c.take_lock.ensures

pub returns-in-Ran : goal.returns-in-Ran
returns-in-Ran c =
    let new = c.take_steps.new.self in
    if_answered c.take_steps.result _ (λ kept. IsTaken c.args.self.now new c.args.next kept c.args.entry.now)
    (λ kept is. subst (IsTaken c.args.self.now new c.args.next kept) (sym c.in-Ran.is)
    (λ k are place. by_one kept (MayRun k c.in-Ran.thread c.in-Ran.steps) (λ (cpu : ℕ). AreFactsOf new (told_after k (Ran c.in-Ran.thread c.in-Ran.steps cpu))) c.in-Ran.cpu (is k are place)))
    c.take_steps.ensures

pub returns-in-Ended : goal.returns-in-Ended
returns-in-Ended c =
    let new = c.take_fault.new.self in
    if_answered c.take_fault.result _ (λ kept. IsTaken c.args.self.now new c.args.next kept c.args.entry.now)
    (λ kept is. subst (IsTaken c.args.self.now new c.args.next kept) (sym c.in-Ended.is)
    (λ k are place. by_one kept (MayEnd k c.in-Ended.thread) (λ (cpu : ℕ). AreFactsOf new (told_after k (Ended c.in-Ended.thread cpu))) c.in-Ended.cpu (is k are place)))
    c.take_fault.ensures

pub returns-in-Completed : goal.returns-in-Completed
returns-in-Completed c =
    let new = c.take_call.new.self in
    if_answered c.take_call.result _ (λ kept. IsTaken c.args.self.now new c.args.next kept c.args.entry.now)
    (λ kept is. subst (IsTaken c.args.self.now new c.args.next kept) (sym c.in-Completed.is)
    (λ k are place. by_one kept (MayComplete k c.in-Completed.thread) (λ (cpu : ℕ). AreFactsOf new (told_after k (Completed c.in-Completed.thread cpu))) c.in-Completed.cpu (is k are place)))
    c.take_call.ensures

pub returns-in-Unlocked : goal.returns-in-Unlocked
returns-in-Unlocked c =
    let new = c.take_unlock.new.self in
    subst (IsTaken c.args.self.now new c.args.next c.take_unlock.result) (sym c.in-Unlocked.is)
    (λ k are place. by_one c.take_unlock.result (MayUnlock k c.in-Unlocked.ident) (λ (cpu : ℕ). AreFactsOf new (told_after k (Unlocked c.in-Unlocked.ident cpu))) c.in-Unlocked.cpu (c.take_unlock.ensures k are place))
